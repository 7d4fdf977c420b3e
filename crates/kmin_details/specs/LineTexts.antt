-- The texts of messages for lines at fault, by the words of these lines alone.
use Rattle.std.specs.Prelude.{ℕ, ◌+◌, not, List, [], ◌∷◌, ◌++◌, Option, Some, None, Result, Ok, Err, codes, take, drop, position, nat_eq, if◌then◌else◌}
use Rattle.std.specs.List.{starts_with}
use Rattle.std.specs.Str.{continuation_len}
use Rattle.std.specs.Str.Lossy.{utf8_lossy}
use Rattle.kc_tokens.specs.Token.{Lexeme, is_white_byte}
use Rattle.kc_tokens.specs.declared.fault.ExprFault.{ExprFault}
use Rattle.kc_tree_model.specs.Keywords.{keyword_of}
use Rattle.kc_tree_model.specs.declared.fault.TreeKind.{TreeKind}
use Rattle.kc_tree_model.specs.declared.fault.TreeKind.TheVariants as kinds
use Rattle.kc_dotconfig_model.specs.declared.fault.LoadKind.{LoadKind}
use Rattle.kc_dotconfig_model.specs.declared.fault.LoadKind.TheVariants.{Malformed}
use Rattle.kc_tree_model.specs.declared.keyword.Keyword.{Keyword}
use Rattle.kc_tree_model.specs.declared.keyword.Keyword.TheVariants as words

-- Tokens of a line are those of `lexemes_from`, or the first fault of a line that can't be cut into tokens.

-- of a line of a tree whose first word is at fault (UnknownStatement, StrayEnd, Malformed): that word
abbrev pub first_token : Result (List Lexeme) ExprFault → List ℕ
first_token (Err fault) = []
first_token (Ok []) = []
first_token (Ok (t ∷ ts)) = t.text

-- a form that is left out, by the keyword of its first token `t` and the tokens after that; a form with a word of its own is named
-- by that word
abbrev pub form_named : Option Keyword → (t : Lexeme) (ts : List Lexeme) → List ℕ
form_named (Some words.Option) t ts = codes "option " ++ first_token (Ok ts)
form_named (Some words.Choice) t ts = codes "a named choice"
form_named (Some words.Source) t ts = codes "a pattern"
form_named (Some (words.Type kind)) t ts = codes "a tristate choice"
form_named keyword t ts = t.text

-- the form of a line that is left out, by its tokens
abbrev pub form_text : List Lexeme → List ℕ
form_text [] = []
form_text (t ∷ ts) = form_named (keyword_of t) t ts

-- of a line of a tree that is left out (LeftOut): its form, or that it has a macro, whose `$` is no token
abbrev pub left_out_text : Result (List Lexeme) ExprFault → List ℕ
left_out_text (Err fault) = codes "a macro"
left_out_text (Ok ts) = form_text ts

-- the bytes of a byte order mark, U+FEFF in UTF-8
abbrev pub byte_order_mark : List ℕ
byte_order_mark = 0xEF ∷ 0xBB ∷ 0xBF ∷ []

-- the character at the front of bytes, or that it is a byte order mark
abbrev pub front_character : List ℕ → List ℕ
front_character [] = []
front_character (b ∷ bs) =
    if starts_with nat_eq (b ∷ bs) byte_order_mark then codes "a byte order mark"
    else utf8_lossy (take (continuation_len b + 1) (b ∷ bs))

-- the character at a place of a text, or that it is a byte order mark
abbrev pub character_at : (text : List ℕ) (at : ℕ) → List ℕ
character_at text at = front_character (drop at text)

-- of a line of a tree with a byte that begins no token (BadToken): the character there
abbrev pub bad_token_text : (line : List ℕ) → Result (List Lexeme) ExprFault → List ℕ
bad_token_text line (Ok ts) = []
bad_token_text line (Err fault) = character_at line fault.offset

-- bytes from the first that isn't white on
abbrev pub after_white : List ℕ → List ℕ
after_white bytes = elim (position (λ b. not (is_white_byte b)) bytes) [ None ↦ [] | Some n ↦ drop n bytes ]

-- bytes up to the first that is white
abbrev pub up_to_white : List ℕ → List ℕ
up_to_white bytes = elim (position is_white_byte bytes) [ None ↦ bytes | Some n ↦ take n bytes ]

-- of a line of a configuration file or of a file of answers without a meaning (Malformed): its first word, up to white space, or
-- that it begins with a byte order mark
abbrev pub first_run : (line : List ℕ) → List ℕ
first_run line =
    if starts_with nat_eq line byte_order_mark then codes "a byte order mark"
    else utf8_lossy (up_to_white (after_white line))

-- the text for a fault of a line of a tree, by its kind
abbrev pub tree_line_text : TreeKind → (line : List ℕ) → Result (List Lexeme) ExprFault → List ℕ
tree_line_text kinds.UnknownStatement line ts = first_token ts
tree_line_text kinds.StrayEnd line ts = first_token ts
tree_line_text kinds.Malformed line ts = first_token ts
tree_line_text kinds.LeftOut line ts = left_out_text ts
tree_line_text kinds.BadToken line ts = bad_token_text line ts
tree_line_text kind line ts = []

-- the text for a fault of a line of a configuration file, by its kind
abbrev pub file_line_text : LoadKind → (line : List ℕ) → List ℕ
file_line_text Malformed line = first_run line
file_line_text kind line = []

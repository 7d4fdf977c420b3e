-- From the bytes of a file to its logical lines: a backslash joins lines, and a help text is left out by indentation.
use Rattle.std.specs.Prelude.{ℕ, zero, suc, ◌+◌, ◌-◌, ◌*◌, ◌/◌, Bool, true, false, ◌&&◌, ◌||◌, ◌==◌, nat_le, List, [], ◌∷◌, ◌++◌, length, map, take, drop, take_while, slice_index, Option, Some, None, Result, Ok, Err, if◌then◌else◌}
use Rattle.std.specs.List.{list_all, suffix_len}
use Rattle.kc_tokens.specs.Token.{is_white_byte, lexemes_from, Lexeme}
use Rattle.kc_tokens.specs.declared.fault.ExprFault.{ExprFault}
use Rattle.kc_tokens.specs.declared.language.Language.{Language}
use Rattle.kc_tokens.specs.declared.language.Language.TheVariants.{Strict}
use Rattle.kc_tree_model.specs.Keywords.{keyword_of}
use Rattle.kc_tree_model.specs.declared.keyword.Keyword.{Keyword}
use Rattle.kc_tree_model.specs.declared.keyword.Keyword.TheVariants as words

-- a physical line without its newline, and whether a newline ends it
pub record PhysicalLine : Type 0 where
  pub text : List ℕ
  pub ended : Bool

-- these physical lines with a byte before the text of the first; of no lines, one line of that byte without a newline
abbrev pub with_first_byte : ℕ → List PhysicalLine → List PhysicalLine
with_first_byte b [] = record { text = b ∷ []; ended = false } ∷ []
with_first_byte b (l ∷ ls) = record { text = b ∷ l.text; ended = l.ended } ∷ ls

-- the physical lines of these bytes, cut at each newline
abbrev pub split_at_newlines : List ℕ → List PhysicalLine
split_at_newlines [] = []
split_at_newlines (b ∷ bs) = if b == 10 then record { text = []; ended = true } ∷ split_at_newlines bs else with_first_byte b (split_at_newlines bs)

-- the last byte of a line's text, or 0 if it is empty
abbrev pub last_byte : List ℕ → ℕ
last_byte text = slice_index text (length text - 1)

-- a line's text without its last byte
abbrev pub without_last : List ℕ → List ℕ
without_last text = take (length text - 1) text

-- a physical line without the carriage return just before its newline, if it has one
abbrev pub without_return : PhysicalLine → PhysicalLine
without_return l = if l.ended && (last_byte l.text == 13) then record { text = without_last l.text; ended = true } else l

-- the physical lines of a file's bytes, without newlines and the carriage returns just before them
abbrev pub physical_lines : List ℕ → List PhysicalLine
physical_lines bytes = map without_return (split_at_newlines bytes)

-- whether a physical line goes on in the next one: a newline ends it and its last byte is a backslash
abbrev pub is_continued : PhysicalLine → Bool
is_continued l = l.ended && (last_byte l.text == 92)

-- the bytes of the logical line at the front of these physical lines, without the backslashes that join them
abbrev pub joined_bytes : List PhysicalLine → List ℕ
joined_bytes [] = []
joined_bytes (l ∷ ls) = if is_continued l then without_last l.text ++ joined_bytes ls else l.text

-- how many of these physical lines are joined to the first
abbrev pub continuation_count : List PhysicalLine → ℕ
continuation_count [] = 0
continuation_count (l ∷ []) = 0
continuation_count (l ∷ m ∷ ls) = if is_continued l then suc (continuation_count (m ∷ ls)) else 0

-- the column after a byte of indentation at a column: a space adds one, a tab goes to the next multiple of 8, else None;
-- an Option, since a definition that calls itself twice under an `if` takes exponential time to compute
abbrev pub column_after : ℕ → ℕ → Option ℕ
column_after n b = if b == 32 then Some (n + 1) else if b == 9 then Some ((n / 8 + 1) * 8) else None

-- the column to which the indentation at the front of these bytes leads, starting from a column
abbrev pub column_from : ℕ → List ℕ → ℕ
column_from n [] = n
column_from n (b ∷ bs) = elim (column_after n b) [ None ↦ n | Some m ↦ column_from m bs ]

-- the column at which the text of a physical line begins after its indentation, from 0
abbrev pub indentation : PhysicalLine → ℕ
indentation l = column_from 0 l.text

-- whether a physical line has white bytes alone
abbrev pub is_blank : PhysicalLine → Bool
is_blank l = list_all is_white_byte l.text

-- a text without the white bytes at its end
abbrev pub without_white_end : List ℕ → List ℕ
without_white_end text = take (length text - suffix_len is_white_byte text) text

-- the indentation of the first of these lines that isn't blank, or 0 if all are blank
abbrev pub first_indentation : List PhysicalLine → ℕ
first_indentation [] = 0
first_indentation (l ∷ ls) = if is_blank l then first_indentation ls else indentation l

-- how many of these physical lines the help text at their front has: it ends before the first line that is neither blank nor
-- indented at least as far as the first that isn't blank, and is empty if that isn't indented ("Menu attributes", help text)
abbrev pub help_line_count : List PhysicalLine → ℕ
help_line_count ls = let n = first_indentation ls in if n == 0 then 0 else length (take_while (λ l. is_blank l || nat_le n (indentation l)) ls)

-- a logical line: the number of its first physical line, from 1, its bytes, and whether it is a line of a help text, which is
-- only checked for length and UTF-8
pub record LogicalLine : Type 0 where
  pub number : ℕ
  pub text : List ℕ
  pub help : Bool

-- whether there is a keyword and it begins a help text
abbrev pub is_help_word : Option Keyword → Bool
is_help_word (Some words.Help) = true
is_help_word k = false

-- whether the tokens of a line are one word that begins a help text, and nothing more
abbrev pub is_help : List Lexeme → Bool
is_help [] = false
is_help (p ∷ []) = is_help_word (keyword_of p)
is_help (p ∷ q ∷ rest) = false

-- whether a line has tokens without a fault, and they are one word that begins a help text
abbrev pub is_help_or_fault : Result (List Lexeme) ExprFault → Bool
is_help_or_fault (Err e) = false
is_help_or_fault (Ok ps) = is_help ps

-- whether a line begins a help text in a language: its only token is `help` or `---help---`
abbrev pub begins_help_in : Language → List ℕ → Bool
begins_help_in language text = is_help_or_fault (lexemes_from language 0 0 text)

-- whether a line begins a help text: its only token is `help` or `---help---` ("Menu attributes", help text)
abbrev pub begins_help : List ℕ → Bool
begins_help text = begins_help_in Strict text

-- the logical lines of these physical lines, of which the first has this number; `joined` counts the lines at the front that are
-- joined to the logical line before, and `help` those after them that belong to its help text
abbrev pub logical_lines_from : (joined help number : ℕ) → List PhysicalLine → List LogicalLine
logical_lines_from joined help n [] = []
logical_lines_from (suc joined) help n (l ∷ ls) = logical_lines_from joined help (n + 1) ls
logical_lines_from zero (suc help) n (l ∷ ls) = record { number = n; text = l.text; help = true } ∷ logical_lines_from 0 help (n + 1) ls
logical_lines_from zero zero n (l ∷ ls) =
    let text = joined_bytes (l ∷ ls) in
    let more = continuation_count (l ∷ ls) in
    record { number = n; text = text; help = false } ∷ logical_lines_from more (if begins_help text then help_line_count (drop more ls) else 0) (n + 1) ls

-- the logical lines of a file's bytes; `IsInLines` describes them, by the law `lines_are_of_the_grammar`
unfoldable pub lines_of : List ℕ → List LogicalLine
lines_of bytes = logical_lines_from 0 0 1 (physical_lines bytes)

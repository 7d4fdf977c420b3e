-- The keywords of logical lines by their first words, and tests of tokens.
use Rattle.std.specs.Prelude.{ℕ, Bool, true, false, not, ◌&&◌, ◌||◌, nat_lt, List, [], ◌∷◌, length, Option, None, bytes_eq, codes, if◌then◌else◌}
use Rattle.std.specs.List.{list_all}
use Rattle.std.specs.Map.{lookup}
use Rattle.kc_value.specs.declared.value.Kind.TheVariants.{Bool as Boolean, Tristate, Text, Int, Hex}
use Rattle.kc_tokens.specs.Token.{Lexeme, is_name_byte}
use Rattle.kc_tokens.specs.declared.token.TokenKind.{TokenKind}
use Rattle.kc_tokens.specs.declared.token.TokenKind.TheVariants.{Word, Quoted}
use Rattle.kc_tree_model.specs.declared.keyword.Keyword.{Keyword}
use Rattle.kc_tree_model.specs.declared.keyword.Keyword.TheVariants as words
use Rattle.kc_tree_model.specs.declared.keyword.Block.TheVariants as blocks

-- the first words of lines with their keywords: statements ("Kconfig syntax"), attributes ("Menu attributes"), left-out words
abbrev pub keywords : List (List ℕ × Keyword)
keywords =
    (codes "config", words.Config) ∷ (codes "menuconfig", words.Config) ∷ (codes "choice", words.Choice)
    ∷ (codes "endchoice", words.End blocks.Choice) ∷ (codes "menu", words.Menu) ∷ (codes "endmenu", words.End blocks.Menu)
    ∷ (codes "if", words.If) ∷ (codes "endif", words.End blocks.If) ∷ (codes "comment", words.Comment)
    ∷ (codes "source", words.Source) ∷ (codes "mainmenu", words.Mainmenu)
    ∷ (codes "bool", words.Type Boolean) ∷ (codes "tristate", words.Type Tristate) ∷ (codes "string", words.Type Text)
    ∷ (codes "hex", words.Type Hex) ∷ (codes "int", words.Type Int)
    ∷ (codes "def_bool", words.DefaultType Boolean) ∷ (codes "def_tristate", words.DefaultType Tristate)
    ∷ (codes "prompt", words.Prompt) ∷ (codes "default", words.Default) ∷ (codes "depends", words.Depends)
    ∷ (codes "select", words.Select) ∷ (codes "imply", words.Imply) ∷ (codes "range", words.Range)
    ∷ (codes "visible", words.Visible) ∷ (codes "help", words.Help) ∷ (codes "---help---", words.Help)
    ∷ (codes "modules", words.Modules) ∷ (codes "option", words.Option)
    ∷ (codes "def_int", words.DefaultType Int) ∷ (codes "def_hex", words.DefaultType Hex) ∷ (codes "def_string", words.DefaultType Text)
    ∷ (codes "rsource", words.LeftOut) ∷ (codes "osource", words.LeftOut) ∷ (codes "orsource", words.LeftOut)
    ∷ (codes "optional", words.Optional) ∷ (codes "transitional", words.LeftOut) ∷ []

-- the value that a table has for a word, or None if it lacks the word
abbrev pub keyword_in_table : {A : Type 0} → List (List ℕ × A) → List ℕ → Option A
keyword_in_table table word = lookup (λ key. bytes_eq key word) table

-- whether a token is a bare word
abbrev pub is_word_kind : TokenKind → Bool
is_word_kind Word = true
is_word_kind k = false

-- whether a token is a quoted text
abbrev pub is_quoted_kind : TokenKind → Bool
is_quoted_kind Quoted = true
is_quoted_kind k = false

-- whether a token is the bare word with these bytes
abbrev pub is_the_word : List ℕ → Lexeme → Bool
is_the_word x t = is_word_kind t.kind && bytes_eq t.text x

-- the keyword that the first token of a line is, or None if it is no keyword
abbrev pub keyword_of : Lexeme → Option Keyword
keyword_of t = if is_word_kind t.kind then keyword_in_table keywords t.text else None

-- whether a token is the name of a symbol: a bare word of letters, digits and `_` other than the constants `n`, `m` and `y`
abbrev pub is_name : Lexeme → Bool
is_name t = is_word_kind t.kind && (nat_lt 0 (length t.text) && list_all is_name_byte t.text) && not (bytes_eq t.text (codes "n") || bytes_eq t.text (codes "m") || bytes_eq t.text (codes "y"))

-- The grammar of the physical and logical lines of a file.
use Rattle.std.specs.Prelude.{◌≡◌, ℕ, ◌+◌, ◌<◌, Bool, true, false, ◌&&◌, ◌||◌, nat_lt, nat_le, List, [], ◌∷◌, ◌++◌, length, map, Some}
use Rattle.std.specs.List.{list_all}
use Rattle.kc_tokens.specs.declared.language.Language.TheVariants.{Strict}
use Rattle.kc_tokens.specs.Token.{Lexeme}
use Rattle.kc_tokens.specs.TokenGrammar.{IsCut}
use Rattle.kc_value.specs.Lines.{has_newline}
use Rattle.kc_tree_model.specs.Keywords.{keyword_of}
use Rattle.kc_tree_model.specs.declared.keyword.Keyword.TheVariants as words
use Rattle.kc_tree_model.specs.LogicalLines.{PhysicalLine, LogicalLine, without_last, without_return, is_continued, is_blank, indentation, first_indentation}

-- these bytes are these physical lines: a newline ends each line but the last, which may lack it
pub data AreLines : List ℕ → List PhysicalLine → Type 0 where
  none : AreLines [] []
  last : {text : List ℕ} → 0 < length text → has_newline text ≡ false → AreLines text (record { text = text; ended = false } ∷ [])
  line : {text bytes : List ℕ} {ls : List PhysicalLine} → has_newline text ≡ false → AreLines bytes ls → AreLines (text ++ 10 ∷ bytes) (record { text = text; ended = true } ∷ ls)

-- physical lines before the lines `rest` are joined to one logical line of this text: each but the last goes on in the next, and
-- the last only if `rest` is empty
pub data IsJoined (rest : List PhysicalLine) : List PhysicalLine → List ℕ → Type 0 where
  alone : {l : PhysicalLine} → is_continued l ≡ false → IsJoined rest (l ∷ []) l.text
  at_end : {l : PhysicalLine} → is_continued l ≡ true → rest ≡ [] → IsJoined rest (l ∷ []) (without_last l.text)
  joins : {l : PhysicalLine} {ls : List PhysicalLine} {text : List ℕ} → is_continued l ≡ true → IsJoined rest ls text → IsJoined rest (l ∷ ls) (without_last l.text ++ text)

-- whether a line may be in a help text indented to this column: the column isn't 0, and the line is blank or indented that far
abbrev pub is_of_help : ℕ → PhysicalLine → Bool
is_of_help column l = nat_lt 0 column && (is_blank l || nat_le column (indentation l))

-- whether there is a first line and it is in a help text that is indented to this column
abbrev pub begins_of_help : ℕ → List PhysicalLine → Bool
begins_of_help column [] = false
begins_of_help column (l ∷ ls) = is_of_help column l

-- The lines `help` before the lines `rest` are a help text ("Menu attributes", help text): its column is the indentation of the
-- first line of all that isn't blank, its lines are blank or indented at least so far, and the first of `rest` is neither; at
-- column 0 the help text is empty.
pub record IsHelpText (help rest : List PhysicalLine) : Type 0 where
  pub within : list_all (is_of_help (first_indentation (help ++ rest))) help ≡ true
  pub ends : begins_of_help (first_indentation (help ++ rest)) rest ≡ false

-- a line begins a help text, in every language: its only token is `help` or `---help---` ("Menu attributes", help text)
abbrev pub BeginsHelp : List ℕ → Type 0
BeginsHelp text = (t : Lexeme) × IsCut Strict 0 text (t ∷ []) × (keyword_of t ≡ Some words.Help)

-- the logical lines that the physical lines of a help text are, the first with this number
abbrev pub help_lines : ℕ → List PhysicalLine → List LogicalLine
help_lines n [] = []
help_lines n (l ∷ ls) = record { number = n; text = l.text; help = true } ∷ help_lines (n + 1) ls

-- these physical lines, of which the first has this number, are these logical lines
pub data AreLogical : ℕ → List PhysicalLine → List LogicalLine → Type 0 where
  none : {n : ℕ} → AreLogical n [] []
  line : {n : ℕ} {front rest : List PhysicalLine} {text : List ℕ} {more : List LogicalLine} → IsJoined rest front text → (BeginsHelp text → ⊥)
      → AreLogical (n + length front) rest more → AreLogical n (front ++ rest) (record { number = n; text = text; help = false } ∷ more)
  with_help : {n : ℕ} {front help rest : List PhysicalLine} {text : List ℕ} {more : List LogicalLine} → IsJoined (help ++ rest) front text → BeginsHelp text → IsHelpText help rest
      → AreLogical (n + length front + length help) rest more
      → AreLogical n (front ++ (help ++ rest)) (record { number = n; text = text; help = false } ∷ (help_lines (n + length front) help ++ more))

-- a file with these bytes has these logical lines
abbrev pub IsInLines : List ℕ → List LogicalLine → Type 0
IsInLines bytes ls = (physical : List PhysicalLine) × AreLines bytes physical × AreLogical 1 (map without_return physical) ls

-- Expanded lines by their numbers: each logical line is at the number that it has in the file that is read.
use Rattle.std.specs.Prelude.{◌≡◌, ℕ, zero, suc, ◌+◌, ◌==◌, List, [], ◌∷◌, take, drop, map, if◌then◌else◌}
use Rattle.kc_tree_model.specs.LogicalLines.{PhysicalLine, without_return, is_continued, joined_bytes, continuation_count}
use Rattle.kc_macros_model.specs.ReadingStates.{ReadingState, WrittenLine}
use Rattle.kc_macros_model.specs.TreeExpansion.{place, line_written, help_after, source_read}
use Rattle.kc_macros_model.specs.Worlds.{World, returned}
use Rattle.kc_macros_model.specs.ExpansionRules.{ending_in}

-- the line of a text after this many newlines, without its own newline; empty where the text has fewer
abbrev pub line_after : ℕ → List ℕ → List ℕ
line_after n [] = []
line_after zero (c ∷ s) = if c == 10 then [] else c ∷ line_after 0 s
line_after (suc n) (c ∷ s) = if c == 10 then line_after n s else line_after (suc n) s

-- the line of this number of a text, counted from 1, without its newline; empty where the text has fewer lines
abbrev pub line_of : List ℕ → ℕ → List ℕ
line_of text zero = []
line_of text (suc n) = line_after n text

-- the lines of an expanded file from this number on have the texts of these physical lines
abbrev pub AreAsRead : (written : ℕ → List ℕ) → ℕ → List PhysicalLine → Type 0
AreAsRead written n [] = Unit {0}
AreAsRead written n (l ∷ ls) = (written n ≡ l.text) × AreAsRead written (n + 1) ls

-- the lines of an expanded file from this number on are empty, as many as these physical lines
abbrev pub AreEmpty : (written : ℕ → List ℕ) → ℕ → List PhysicalLine → Type 0
AreEmpty written n [] = Unit {0}
AreEmpty written n (l ∷ ls) = (written n ≡ []) × AreEmpty written (n + 1) ls

-- a logical line, given its physical lines, has the number `n` in an expanded file and this expanded text: the physical lines are
-- as they were read if that is the text of the logical line, else the text is at `n`, and the lines after it are empty
pub data Stands (written : ℕ → List ℕ) (n : ℕ) (first : PhysicalLine) (joined : List PhysicalLine) (text : List ℕ) : List ℕ → Type 0 where
  as_read : AreAsRead written n (first ∷ joined) → Stands written n first joined text text
  replaced : {new : List ℕ} → written n ≡ new → AreEmpty written (n + 1) joined → Stands written n first joined text new

-- the expansion writes this line for the logical line at the front of these physical lines, whose first has the number `n`, in
-- some state of the reading
pub data IsWrittenFor (w : World) (file : List ℕ) (n : ℕ) (first : PhysicalLine) (rest : List PhysicalLine) (line : WrittenLine) : Type 0 where
  written_for : (more : ℕ) (root : List ℕ) (open_files : List (List ℕ)) (s : ReadingState)
      → ending_in w (line_written (source_read more root open_files) (place file n) (is_continued (without_return first)) (joined_bytes (map without_return (first ∷ rest))) s) ≡ returned line
      → IsWrittenFor w file n first rest line

-- the lines of an expanded file from the number `n` on, against the physical lines that were read from there on: a logical line
-- and then its help text, if one follows it, which is as it was read, and so on with the lines after them
pub data AreInPlace (w : World) (file : List ℕ) (written : ℕ → List ℕ) : (n : ℕ) → List PhysicalLine → Type 0 where
  no_more : {n : ℕ} → AreInPlace w file written n []
  logical_line : {n more help : ℕ} {first : PhysicalLine} {rest : List PhysicalLine} (line : WrittenLine)
      → more ≡ continuation_count (map without_return (first ∷ rest)) → help ≡ help_after line.begins_help (drop more rest)
      → IsWrittenFor w file n first rest line → Stands written n first (take more rest) (joined_bytes (map without_return (first ∷ rest))) line.text
      → AreAsRead written (n + 1 + more) (take help (drop more rest))
      → AreInPlace w file written (n + 1 + (more + help)) (drop (more + help) rest)
      → AreInPlace w file written n (first ∷ rest)

-- Ends of a run at texts that are refused as a tree.
use Rattle.std.specs.Prelude.{◌≡◌, ℕ, List, [], ◌∷◌}
use Rattle.kc_tree_model.specs.TreeFiles.{Files}
use Rattle.kc_tree_model.specs.Trees.{Tree}
use Rattle.kc_rules.specs.declared.fault.SettleFault.{SettleFault}
use Rattle.kc_rules.specs.declared.fault.SettleFault.TheVariants.{Cycle, OutOfMemory}
use Rattle.kmin_report.specs.Reports.{ErrorLine, tree_cycle_line}
use Rattle.kmin_trees.specs.Stops.{RefusesTexts}

-- texts ended a run, with this status and these lines of standard error: they are refused as a tree, or memory ran out
pub data StopsAtTexts (texts names : Files) (first : List ℕ) (status : ℕ) (lines : List ErrorLine) : Type 0 where
  at_texts : (line : ErrorLine) → RefusesTexts texts names first line → status ≡ 3 → lines ≡ line ∷ [] → StopsAtTexts texts names first status lines
  for_memory : status ≡ 6 → lines ≡ [] → StopsAtTexts texts names first status lines

-- the exit status for a tree that can't be settled: 3 for a cycle, and 6 for lack of memory
abbrev pub settle_status : SettleFault → ℕ
settle_status (Cycle units) = 3
settle_status OutOfMemory = 6

-- the lines of standard error for a tree that can't be settled: one for a cycle, none for lack of memory, which is reported later
abbrev pub settle_lines : (names : Files) → (first : List ℕ) → Tree → SettleFault → List ErrorLine
settle_lines names first tree (Cycle units) = tree_cycle_line names first tree units.items ∷ []
settle_lines names first tree OutOfMemory = []

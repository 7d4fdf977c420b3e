-- The result of reading a tree.
use Rattle.std.specs.Prelude.{◌≢◌, ℕ, List, Result, Ok, Err}
use Rattle.kc_tree.specs.TreeModel.{TreeModel}
use Rattle.kc_tree_model.specs.TreeFiles.{Files}
use Rattle.kc_tree_model.specs.TreesOfFiles.{IsTreeOfFiles, IsReportedFault}
use Rattle.kc_tree_model.specs.declared.fault.TreeFault.{TreeFault}
use Rattle.kc_tree_model.specs.declared.fault.TreeKind.TheVariants.{OutOfMemory}
use Rattle.kmin_trees.specs.declared.read_trees.ReadTree.{ReadTree}

-- the result of reading files as a tree is their tree, or the fault that is reported for them, or that memory ran out
abbrev pub IsRead : Files → List ℕ → Result TreeModel TreeFault → Type 0
IsRead files first (Ok tree) = IsTreeOfFiles files first tree.tree
IsRead files first (Err fault) = fault.kind ≢ OutOfMemory → IsReportedFault files first fault

-- the same with what is kept of their lines
abbrev pub IsReadWith : (L : Type 0) → (Files → List ℕ → TreeModel → L → Type 0) → Files → List ℕ → Result (ReadTree L) TreeFault → Type 0
IsReadWith L AreOf files first (Ok r) = IsTreeOfFiles files first r.tree.tree × AreOf files first r.tree r.lines
IsReadWith L AreOf files first (Err fault) = fault.kind ≢ OutOfMemory → IsReportedFault files first fault

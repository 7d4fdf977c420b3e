-- The result of reading and settling texts.
use Rattle.std.proofs.Common.{◌≢◌, IfOk}
use Rattle.kmin_trees.proofs.Common.{◌≡◌, ℕ, List, length, ap, ◌⊎◌, inl, inr, Result, Ok, Err, IfErr, refl, sym, subst, Files, TreeFault, TreeModel, OutOfMemory, no_memory, RunError, status_of, StopsAtTexts, at_texts, for_memory}
use Rattle.kc_tree_model.specs.Trees.{Tree}
use Rattle.kc_tree_model.specs.TreesOfFiles.{IsTreeOfFiles, IsReportedFault}
use Rattle.kc_rules_model.specs.Dependencies.{dependencies}
use Rattle.kc_rules_model.specs.SettledTrees.{IsSettledTree}
use Rattle.kc_rules.specs.declared.fault.SettleFault.{SettleFault}
use Rattle.kc_rules.specs.declared.fault.SettleFault.TheVariants.{Cycle, OutOfMemory as SettleMemory}
use Rattle.kc_rules.specs.SettleFaults.{ReportsTreeCycle}
use Rattle.kmin_trees.specs.AcceptedTrees.{AreAccepted}
use Rattle.kmin_trees.specs.Stops.{cyclic}
use Rattle.kmin_trees.specs.between.Readings.{IsRead}
use Rattle.kmin_trees.specs.between.TreeStops.{settle_status, settle_lines}

-- a tree that is read and settled is accepted
pub accepted : (texts : Files) (first : List ℕ) (settled read : TreeModel) → settled ≡ read → IsTreeOfFiles texts first read.tree → IsSettledTree read.tree
    → AreAccepted texts first settled.tree
accepted texts first settled read e of_files s =
    subst (λ (m : TreeModel). AreAccepted texts first m.tree) (sym e) (record { read = of_files; acyclic = s.acyclic })

-- a tree that can't be settled ends a run by its cycle, or for lack of memory
pub settle_stops : (texts names : Files) (first : List ℕ) (tree : Tree) (fault : SettleFault) (stop : RunError) → IsTreeOfFiles texts first tree
    → ReportsTreeCycle (length tree.units) (dependencies tree) fault → status_of stop ≡ settle_status fault
    → StopsAtTexts texts names first (status_of stop) (settle_lines names first tree fault)
settle_stops texts names first tree (Cycle units) stop read cycle status = at_texts _ (cyclic tree units.items read cycle.0 cycle.1 refl) status refl
settle_stops texts names first tree SettleMemory stop read cycle status = for_memory status refl

-- reading by its clauses: a fault other than of memory is the one that is reported of the texts
reported_unless_memory : (texts : Files) (first : List ℕ) (fault : TreeFault) → (fault ≡ no_memory) ⊎ IsReportedFault texts first fault
    → fault.kind ≢ OutOfMemory → IsReportedFault texts first fault
reported_unless_memory texts first fault (inl e) k = absurd (k (ap (λ (f : TreeFault). f.kind) e))
reported_unless_memory texts first fault (inr e) k = e

pub is_read : (texts : Files) (first : List ℕ) (r : Result TreeModel TreeFault) → IfOk r (λ tree. IsTreeOfFiles texts first tree.tree)
    → IfErr r (λ fault. (fault ≡ no_memory) ⊎ IsReportedFault texts first fault) → IsRead texts first r
is_read texts first (Ok tree) a b = a
is_read texts first (Err fault) a b = reported_unless_memory texts first fault b

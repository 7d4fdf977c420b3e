-- Commands that end at their tree: the exit status, and the lines of standard error before those of `last_lines`. `counted` and
-- `counted_after` are how many calls on files failed before and after.
use Rattle.std.specs.Prelude.{◌≡◌, ℕ, List, [], ◌∷◌, ◌++◌, Some, None, Err, length, map}
use Rattle.kc_tree_model.specs.TreeFiles.{Files}
use Rattle.kc_tree_model.specs.Trees.{Tree}
use Rattle.kc_tree_model.specs.TreesOfFiles.{IsTreeOfFiles, IsReportedFault}
use Rattle.kc_tree_model.specs.declared.fault.TreeFault.{TreeFault}
use Rattle.kc_solver.specs.Dependencies.{IsCycle, IsNamedCycle}
use Rattle.kc_rules_model.specs.Dependencies.{dependencies}
use Rattle.kc_macros_model.specs.Programs.{Fault, Notice}
use Rattle.kc_macros_model.specs.AnswerFiles.{RecordedAnswers}
use Rattle.kc_expansion.specs.Expansions.{IsCountedExpansion}
use Rattle.kmin_options.specs.Jobs.{GivenExpansion, Settings}
use Rattle.kmin_inputs.specs.FileContents.{Surroundings}
use Rattle.kmin_inputs.specs.JobAnswers.{AreJobAnswers}
use Rattle.kmin_expansions.specs.JobTexts.{TreeTexts, AreTextsOfJob}
use Rattle.kmin_trees.specs.MissingFiles.{MissesOnlyMissing}
use Rattle.kmin_expansions.specs.TreeFolders.{contents_below}
use Rattle.kmin_inputs.specs.AnswerStops.{StopsAmongAnswers}
use Rattle.kmin_report.specs.Reports.{ErrorLine, tree_fault_line, tree_cycle_line, macro_fault_line, macro_notice_line}

-- Texts are refused as a tree, with this line of standard error, in which files have their names in `names`: for their first
-- fault, or for a cycle of symbols and choices.
pub data RefusesTexts (texts names : Files) (first : List ℕ) (line : ErrorLine) : Type 0 where
  faulty : (fault : TreeFault) → IsReportedFault texts first fault → line ≡ tree_fault_line texts names first fault
      → RefusesTexts texts names first line
  cyclic : (tree : Tree) (units : List ℕ) → IsTreeOfFiles texts first tree
      → IsNamedCycle (length tree.units) (dependencies tree) units → IsCycle (length tree.units) (dependencies tree) units
      → line ≡ tree_cycle_line names first tree units → RefusesTexts texts names first line

-- A command ends at the expansion of its tree's macros, with this status and these lines of standard error: among its answer
-- files, at a fault of the expansion, after its notices, or since memory ran out. Unless the count of failed calls rose, the fault is
-- one of the known files and folders as they are.
pub data StopsInExpansion (known : Surroundings) (counted counted_after : ℕ) (root first : List ℕ) (expansion : GivenExpansion) (status : ℕ) (lines : List ErrorLine) : Type 0 where
  among_answers : StopsAmongAnswers known.content expansion.answers status lines
      → StopsInExpansion known counted counted_after root first expansion status lines
  at_fault : (answers : RecordedAnswers) (notices : List Notice) (fault : Fault) → AreJobAnswers known.content known.variable expansion answers
      → IsCountedExpansion (contents_below known root) counted counted_after answers first notices (Err fault)
      → status ≡ 3 → lines ≡ map macro_notice_line notices ++ macro_fault_line fault ∷ []
      → StopsInExpansion known counted counted_after root first expansion status lines
  for_memory : status ≡ 6 → lines ≡ [] → StopsInExpansion known counted counted_after root first expansion status lines

-- A command ends at its tree, with this status and these lines of standard error: in the expansion of macros, since the texts are
-- refused as a tree, or since memory ran out while they were read. A file of a tree that isn't expanded counts as missing only if it
-- isn't known to be there, or the count of failed calls rose.
pub data StopsAtTree (known : Surroundings) (counted counted_after : ℕ) (settings : Settings) (status : ℕ) (lines : List ErrorLine) : Type 0 where
  in_expansion : (expansion : GivenExpansion) → settings.expansion ≡ Some expansion
      → StopsInExpansion known counted counted_after settings.root settings.tree expansion status lines
      → StopsAtTree known counted counted_after settings status lines
  at_texts : (t : TreeTexts) (line : ErrorLine) → AreTextsOfJob known settings t → RefusesTexts t.texts t.names settings.tree line
      → (settings.expansion ≡ None → MissesOnlyMissing known.content settings.root settings.tree t.texts counted counted_after)
      → status ≡ 3 → lines ≡ t.lines ++ line ∷ [] → StopsAtTree known counted counted_after settings status lines
  for_memory : (t : TreeTexts) → AreTextsOfJob known settings t → status ≡ 6 → lines ≡ t.lines
      → StopsAtTree known counted counted_after settings status lines

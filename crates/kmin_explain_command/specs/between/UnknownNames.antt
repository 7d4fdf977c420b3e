-- Ends of `explain` at a name that means no symbol.
use Rattle.std.specs.Prelude.{◌≡◌, ℕ, List, [], ◌∷◌, Option, Some}
use Rattle.kc_tree_model.specs.Trees.{Tree}
use Rattle.kmin_explain.specs.NearestNames.{nearest_name}
use Rattle.kmin_options.specs.Jobs.{ExplainJob}
use Rattle.kmin_report.specs.Reports.{refused_line}
use Rattle.kmin_report.specs.StandardError.{SpelledBytes, TakesLines}
use Rattle.kmin_explain_command.specs.Explains.{unknown_for}
use Rattle.kmin_explain_command.specs.Stops.{unknown_text}

-- the names of a job ended a run, with this status: one means no symbol, which was reported on standard error with the nearest name,
-- or memory ran out
pub data StopsAtName (job : ExplainJob) (tree : Tree) (status : ℕ) (taken : SpelledBytes) (failed : ℕ) (taken_after : SpelledBytes) (failed_after : ℕ) : Type 0 where
  unknown : (name : List ℕ) (near : Option (List ℕ)) → unknown_for job tree ≡ Some name → near ≡ nearest_name tree job.settings.format.prefix name
      → TakesLines taken failed (refused_line (unknown_text name near) ∷ []) taken_after failed_after → status ≡ 4
      → StopsAtName job tree status taken failed taken_after failed_after
  for_memory : TakesLines taken failed [] taken_after failed_after → status ≡ 6
      → StopsAtName job tree status taken failed taken_after failed_after

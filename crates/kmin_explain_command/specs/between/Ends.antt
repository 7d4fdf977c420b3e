-- Ends of `explain` over a tree with its lines.
use Rattle.std.specs.Prelude.{◌≡◌, ℕ, List, ◌∷◌, [], ◌++◌, Option}
use Rattle.kc_value.specs.FileContents.{FileContent}
use Rattle.kc_rules.specs.between.SettledViews.{tree_of_settled}
use Rattle.kmin_options.specs.Jobs.{ExplainJob}
use Rattle.kmin_report.specs.Reports.{ErrorLine, refused_line}
use Rattle.kmin_report.specs.StandardError.{SpelledBytes, TakesLines}
use Rattle.kmin_expansions.specs.JobTexts.{TreeTexts}
use Rattle.kmin_trees.specs.LinedTrees.{IsLinedTree}
use Rattle.kmin_trees.specs.declared.lined_trees.LinedTree.{LinedTree}
use Rattle.kmin_outputs.specs.between.LoadStops.{StopsOverTree}
use Rattle.kmin_explain_command.specs.Explains.{Explains, RefusesName}
use Rattle.kmin_explain_command.specs.Stops.{task_of, unknown_text}

-- the output of `explain` over a tree, whatever texts the tree is of, with the lines of standard error after those of the texts
pub record ExplainsOver (content_of : List ℕ → FileContent) (job : ExplainJob) (tree : LinedTree) (text : List ℕ) (status : ℕ) (taken : SpelledBytes) (failed : ℕ) (taken_after : SpelledBytes) (failed_after : ℕ) : Type 0 where
  pub own : List ErrorLine
  pub explains : (t : TreeTexts) → IsLinedTree t job.settings.tree tree → Explains content_of job t text status (t.lines ++ own)
  pub reported : TakesLines taken failed own taken_after failed_after

-- `explain` over a tree ends as a command over the configuration of its files does before its output, or at a name that means no
-- symbol, with the lines of standard error after those of the tree's texts
pub data StopsOver (content_of : List ℕ → FileContent) (job : ExplainJob) (tree : LinedTree) (status : ℕ) (taken : SpelledBytes) (failed : ℕ) (taken_after : SpelledBytes) (failed_after : ℕ) : Type 0 where
  before_output : (own : List ErrorLine) → StopsOverTree content_of job.settings (tree_of_settled tree.settled) (task_of job) status own
      → TakesLines taken failed own taken_after failed_after → StopsOver content_of job tree status taken failed taken_after failed_after
  at_name : (own : List ErrorLine) (name : List ℕ) (near : Option (List ℕ))
      → ((t : TreeTexts) → IsLinedTree t job.settings.tree tree → RefusesName content_of job t name near (t.lines ++ own)) → status ≡ 4
      → TakesLines taken failed (own ++ refused_line (unknown_text name near) ∷ []) taken_after failed_after
      → StopsOver content_of job tree status taken failed taken_after failed_after

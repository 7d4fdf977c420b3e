-- The tree of a job, with its texts and what is kept of the lines of its files.
use Rattle.std.specs.Prelude.{◌≡◌, ℕ, List, []}
use Rattle.kc_tree.specs.TreeModel.{TreeModel}
use Rattle.kc_tree_model.specs.TreeFiles.{Files}
use Rattle.kc_rules.specs.between.SettledViews.{tree_of_settled, tree_model_of}
use Rattle.kmin_trees.specs.AcceptedTrees.{AreAccepted}
use Rattle.kmin_expansions.specs.JobTexts.{TreeTexts}
use Rattle.kmin_trees.specs.between.FileNames.{texts_named}
use Rattle.kmin_trees.specs.declared.job_trees.JobTree.{JobTree}

-- the texts of a tree without expansion: they are named by their paths, and there are no notices
abbrev pub plain_texts : Files → TreeTexts
plain_texts texts = record { texts = texts; names = texts; lines = [] }

-- the tree of these texts was read and settled, and this is kept of their lines
pub record IsJobTree (L : Type 0) (AreOf : Files → List ℕ → TreeModel → L → Type 0) (t : TreeTexts) (first : List ℕ) (job : JobTree L) : Type 0 where
  pub accepted : AreAccepted t.texts first (tree_of_settled job.settled)
  pub lines : AreOf t.texts first (tree_model_of job.settled) job.lines
  pub texts : t.texts ≡ job.texts
  pub names : t.names ≡ texts_named job.expanded job.texts

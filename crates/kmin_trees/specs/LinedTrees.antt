-- The tree of a job with the lines of its files.
use Rattle.std.specs.Prelude.{◌≡◌, ℕ, List, [], map, if◌then◌else◌}
use Rattle.std.specs.Str.{is_utf8}
use Rattle.kc_tree_model.specs.TreeFiles.{Files}
use Rattle.kc_builder.specs.between.TreeLines.{IsTreeWithLines}
use Rattle.kc_rules.specs.between.SettledViews.{tree_of_settled, tree_model_of}
use Rattle.kmin_trees.specs.AcceptedTrees.{AreAccepted}
use Rattle.kmin_expansions.specs.JobTexts.{TreeTexts}
use Rattle.kmin_trees.specs.declared.lined_trees.LinedTree.{LinedTree}

-- a name of a file as a text; the empty one if it isn't UTF-8
abbrev pub name_text : List ℕ → List ℕ
name_text name = if is_utf8 name then name else []

-- the names of the files of texts, by their numbers
abbrev pub names_by_number : Files → List (List ℕ)
names_by_number names = map (λ (file : List ℕ × List ℕ). name_text file.0) names.list

-- the tree of these texts is accepted, with the lines of its files and their names
pub record IsLinedTree (t : TreeTexts) (first : List ℕ) (lined : LinedTree) : Type 0 where
  pub accepted : AreAccepted t.texts first (tree_of_settled lined.settled)
  pub lines : IsTreeWithLines t.texts first (tree_model_of lined.settled) lined.lines
  pub paths : lined.paths.items ≡ names_by_number t.names

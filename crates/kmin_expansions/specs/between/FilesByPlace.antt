-- Expanded files by their places in the tree.
use Rattle.std.specs.Prelude.{Option, Some, None}
use Rattle.kc_tree_model.specs.TreeFiles.{Files}
use Rattle.kc_macros_model.specs.ReadingStates.{ExpandedFile}
use Rattle.kmin_expansions.specs.JobTexts.{with_expanded_file}

-- the texts of a tree with one more expanded file, if there is one
abbrev pub with_file_at : Option ExpandedFile → Files → Files
with_file_at None texts = texts
with_file_at (Some f) texts = with_expanded_file f texts

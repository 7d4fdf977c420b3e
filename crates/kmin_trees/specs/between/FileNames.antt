-- The names of a tree's files in messages.
use Rattle.std.specs.Prelude.{ℕ, List, [], Option, Some, None, option_map, unwrap_or}
use Rattle.kc_tree_model.specs.TreeFiles.{Files, path_at}
use Rattle.kc_macros_model.specs.ReadingStates.{ExpandedFile}
use Rattle.kmin_trees.specs.declared.file_names.FileNames.{FileNames}
use Rattle.kmin_report.specs.FileNames.{named_texts}
use Rattle.kmin_report.specs.between.ReportLines.{names_among}
use Rattle.kmin_trees.specs.LinedTrees.{name_text}

-- the texts of a tree, each at the name in messages that a `FileNames` gives to its file
abbrev pub names_of : FileNames → Files
names_of n = names_among n.texts.now n.expanded

-- the texts of a tree
abbrev pub texts_of : FileNames → Files
texts_of n = n.texts.now

-- the texts of a tree, each at its name in messages, where the files may be expanded ones
abbrev pub texts_named : Option (List ExpandedFile) → Files → Files
texts_named None texts = texts
texts_named (Some files) texts = named_texts files texts

-- the name of the file with this number as a text; the empty one if there is no such file
abbrev pub text_at : Files → ℕ → List ℕ
text_at names number = unwrap_or (option_map name_text (path_at names number)) []

-- The names of a tree's files in messages.
use Rattle.std.specs.Prelude.{ℕ, List, Option, Some, None, map, unwrap_or}
use Rattle.kc_tree_model.specs.TreeFiles.{Files}
use Rattle.kc_macros_model.specs.ReadingStates.{ExpandedFile}
use Rattle.kc_files.specs.PathsOfKeys.{path_of_key}

-- the path that was read for the expanded file with this key; the key itself if there is no such file
abbrev pub name_of_key : List ExpandedFile → (key : List ℕ) → List ℕ
name_of_key files key = unwrap_or (path_of_key files key) key

-- the texts of expanded files, each at its name in messages: the path that was read for its key
abbrev pub named_texts : List ExpandedFile → Files → Files
named_texts files texts = record { language = texts.language; list = map (λ (f : List ℕ × List ℕ). (name_of_key files f.0, f.1)) texts.list }

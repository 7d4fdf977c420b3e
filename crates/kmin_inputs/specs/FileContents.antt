-- Files, folders and the environment, as far as they are known.
use Rattle.std.specs.Prelude.{◌≡◌, ℕ, List, ◌∷◌, ◌++◌, Option, Some, None, take}
use Rattle.kc_value.specs.declared.limits.TheConstants.{MAX_FILE_BYTES}
use Rattle.kc_value.specs.FileContents.{FileContent, unknown, absent, known}
use Rattle.kc_tokens.specs.declared.language.Language.{Language}
use Rattle.kc_tree_model.specs.TreeFiles.{Files, file_at}
use Rattle.kc_files.specs.TreeContents.{FolderContent}

-- these bytes agree with what is known of a file: they are all its bytes, but no more than the first `MAX_FILE_BYTES`
abbrev pub MatchContentStart : FileContent → List ℕ → Type 0
MatchContentStart unknown bytes = Unit {0}
MatchContentStart absent bytes = ⊥
MatchContentStart (known all) bytes = bytes ≡ take MAX_FILE_BYTES all

-- the path, for the system, of a file of a tree: the root, a slash, and its path in the tree
abbrev pub path_below : List ℕ → List ℕ → List ℕ
path_below root path = root ++ 47 ∷ path

-- the texts of a tree are in this language, and each matches what is known of the file at its path below the root
pub record AreTextsBelow (content_of : List ℕ → FileContent) (root : List ℕ) (language : Language) (texts : Files) : Type 0 where
  pub in_language : texts.language ≡ language
  pub content : (path bytes : List ℕ) → file_at texts path ≡ Some bytes → MatchContentStart (content_of (path_below root path)) bytes

-- what is known of a variable of the environment: nothing (`None`), that it isn't set (`Some None`), or its value
abbrev pub VariableContent : Type 0
VariableContent = Option (Option (List ℕ))

-- a value of a variable of the environment, `None` if it isn't set, agrees with what is known of the variable
abbrev pub MatchVariable : VariableContent → Option (List ℕ) → Type 0
MatchVariable None value = Unit {0}
MatchVariable (Some of_variable) value = value ≡ of_variable

-- all that is known of the surroundings of a job: files, regular files, the names in folders, and the environment
pub record Surroundings : Type 0 where
  pub content : List ℕ → FileContent
  pub regular : List ℕ → FileContent
  pub names : List ℕ → FolderContent
  pub variable : List ℕ → VariableContent

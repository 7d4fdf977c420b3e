-- The files of a tree: their language, and paths with their bytes.
use Rattle.std.specs.Prelude.{ℕ, List, [], ◌∷◌, Option, bytes_eq, map, slice_get, option_map, if◌then◌else◌}
use Rattle.std.specs.List.{IsDistinct, position_or_len}
use Rattle.std.specs.Map.{lookup}
use Rattle.kc_tokens.specs.declared.language.Language.{Language}
use Rattle.kc_tokens.specs.declared.language.Language.TheVariants.{Strict, Linux}
use Rattle.kc_tokens.specs.declared.language.LinuxVersion.{LinuxVersion}

-- the files of a tree: the language in which they are written, and paths with their bytes, in order of insertion
pub record Files : Type 0 where
  pub language : Language
  pub list : List (List ℕ × List ℕ)

-- these paths and bytes as files in the strict language
abbrev pub strict_files : List (List ℕ × List ℕ) → Files
strict_files list = record { language = Strict; list = list }

-- these paths and bytes as files in the language of a version of Linux
abbrev pub linux_files : LinuxVersion → List (List ℕ × List ℕ) → Files
linux_files version list = record { language = Linux version; list = list }

-- the bytes of the file at a path, or None if there is none
abbrev pub file_at : Files → List ℕ → Option (List ℕ)
file_at files path = lookup (bytes_eq path) files.list

-- the number of a path among the files, from 0; of an absent path, the count of files
abbrev pub index_of_file : Files → List ℕ → ℕ
index_of_file files path = position_or_len (λ (f : List ℕ × List ℕ). bytes_eq path f.0) files.list

-- a list of paths and bytes with a file put in: a new path goes last, the bytes of a present path are replaced in place
abbrev pub with_path : List (List ℕ × List ℕ) → List ℕ → List ℕ → List (List ℕ × List ℕ)
with_path [] path bytes = (path, bytes) ∷ []
with_path (f ∷ fs) path bytes = if bytes_eq path f.0 then (f.0, bytes) ∷ fs else f ∷ with_path fs path bytes

-- the files with a file put in: a new path goes last, the bytes of a present path are replaced in place
abbrev pub with_file : Files → List ℕ → List ℕ → Files
with_file files path bytes = record { language = files.language; list = with_path files.list path bytes }

-- the path of the file with this number, from 0, or None past the last file
abbrev pub path_at : Files → ℕ → Option (List ℕ)
path_at files i = option_map (λ (f : List ℕ × List ℕ). f.0) (slice_get files.list i)

-- no path occurs twice among the files
abbrev pub HasDistinctPaths : Files → Type 0
HasDistinctPaths files = IsDistinct bytes_eq (map (λ (f : List ℕ × List ℕ). f.0) files.list)

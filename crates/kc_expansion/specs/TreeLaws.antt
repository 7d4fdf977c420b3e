-- Laws of the expansion of trees that the reader accepts: they stay as they are.
use Rattle.std.specs.Prelude.{◌≡◌, ℕ, Bool, true, false, List, [], ◌∷◌, map, filter_map, Option, Some, None, Ok, bytes_eq, if◌then◌else◌}
use Rattle.std.specs.List.{All}
use Rattle.std.specs.Map.{lookup}
use Rattle.kc_tokens.specs.declared.language.Language.{Language}
use Rattle.kc_tokens.specs.declared.language.LinuxVersion.{LinuxVersion}
use Rattle.kc_tree_model.specs.TreeFiles.{Files, linux_files, file_at, index_of_file}
use Rattle.kc_tree_model.specs.LogicalLines.{LogicalLine, begins_help}
use Rattle.kc_tree_model.specs.Statements.{Statement}
use Rattle.kc_tree_model.specs.Blocks.{Group, sourced_path}
use Rattle.kc_tree_model.specs.Limits.{is_in_list}
use Rattle.kc_tree_model.specs.TreeReading.{statement_on_line, path_to_read, reading}
use Rattle.kc_tree_model.specs.TreeFaults.{first_tree_fault}
use Rattle.kc_tree_model.specs.MoreFiles.{reading_from, AreAmong}
use Rattle.kc_value.specs.declared.limits.TheConstants.{MAX_WORK}
use Rattle.kc_macros_model.specs.PlainLines.{is_plain_line, is_before_help}
use Rattle.kc_macros_model.specs.ReadingStates.{ExpandedFile, has_key}
use Rattle.kc_macros_model.specs.Worlds.{World, returned, Outcome, expansion, wanted}

-- the paths of the files that the reader of a tree reads: that of the first file, then those that are sourced, in order of
-- reading
abbrev pub paths_read : Files → List ℕ → List (List ℕ)
paths_read files root = root ∷ filter_map sourced_path (reading files root).read

-- the keys of expanded files with the texts of these files
abbrev pub keyed_texts : List ExpandedFile → List (List ℕ × List ℕ)
keyed_texts expanded = map (λ (f : ExpandedFile). (f.key, f.text)) expanded

-- the tree of expanded files with their keys as paths, to be read in the language of a version of Linux
abbrev pub by_key : LinuxVersion → List ExpandedFile → Files
by_key version expanded = linux_files version (keyed_texts expanded)

-- the text of the expanded file with a key, if there is one
abbrev pub text_of_key : List ExpandedFile → List ℕ → Option (List ℕ)
text_of_key expanded key = lookup (bytes_eq key) (keyed_texts expanded)

-- whether the statement of a line, if it has one, sources this path
abbrev pub is_sourced_by : Option Statement → List ℕ → Bool
is_sourced_by o path = elim (path_to_read o) [ None ↦ false | Some p ↦ bytes_eq p path ]

-- the expansion does nothing to a line that the reader accepts, except that it follows a `source` line, and it takes a help text
-- to follow the line exactly where the reader does
abbrev pub AcceptedLinesStay : Type 0
AcceptedLinesStay = (language : Language) (read : List Group) (l : LogicalLine) (o : Option Statement) → l.help ≡ false → statement_on_line language read l ≡ Ok o
    → (is_plain_line (is_sourced_by o) l.text ≡ true) × (is_before_help l.text ≡ begins_help l.text)

-- an expanded file is an unchanged file of a tree: its key is its path, and its text the bytes of that path
pub record IsFileOf (files : Files) (f : ExpandedFile) : Type 0 where
  pub key : f.key ≡ f.path
  pub text : file_at files f.path ≡ Some f.text

-- An outcome of an expansion that returns the files of a tree: no notice, no question, no work, and exactly the files that the
-- reader reads, each with its own bytes under its own path.
pub record IsGivenBack (files : Files) (root : List ℕ) (o : Outcome (List ExpandedFile)) : Type 0 where
  pub notices : o.notices ≡ []
  pub questions : o.questions ≡ []
  pub work : o.left ≡ MAX_WORK
  pub expanded : List ExpandedFile
  pub ending : o.ending ≡ returned expanded
  pub own : All (IsFileOf files) expanded
  pub keys_are : (path : List ℕ) → has_key expanded path ≡ is_in_list path (paths_read files root)
  pub texts : (path : List ℕ) → text_of_key expanded path ≡ (if is_in_list path (paths_read files root) then file_at files path else None)

-- The expansion returns the files of a tree that the reader accepts, in the strict language or in that of Linux, in every world
-- that has its files, whatever else is in that world and whatever the answers are. The limits of the reader are those of the
-- expansion: 4,096 files, 67,108,864 bytes, 32 files open within each other, 65,536 bytes of a line.
abbrev pub AcceptedTreesStay : Type 0
AcceptedTreesStay = (w : World) (files : Files) (root : List ℕ) → first_tree_fault files root ≡ None → AreAmong (file_at files) w.bytes → IsGivenBack files root (expansion w root)

-- the expansion of a tree that the reader accepts asks no question
abbrev pub AcceptedTreesWantNothing : Type 0
AcceptedTreesWantNothing = (w : World) (files : Files) (root : List ℕ) → first_tree_fault files root ≡ None → AreAmong (file_at files) w.bytes → wanted w root ≡ Ok []

-- The reader reads the expanded files of a tree that it accepts just as it reads the tree itself, where each expanded file has
-- the number of the file from which it comes.
abbrev pub ReadingsStay : Type 0
ReadingsStay = (w : World) (files : Files) (root : List ℕ) (expanded : List ExpandedFile) → first_tree_fault files root ≡ None → AreAmong (file_at files) w.bytes → (expansion w root).ending ≡ returned expanded
    → reading_from (record { language = files.language; bytes = text_of_key expanded; number = index_of_file files; root = root }) ≡ reading files root

-- The expansion of expanded files, whatever the answers, returns exactly those of them that the reader reads, if it accepts them,
-- with their keys as paths, in the language of each version of Linux.
abbrev pub ExpandedTreesStay : Type 0
ExpandedTreesStay = (version : LinuxVersion) (w again : World) (root : List ℕ) (files : List ExpandedFile) → (expansion w root).ending ≡ returned files
    → first_tree_fault (by_key version files) root ≡ None → AreAmong (text_of_key files) again.bytes → IsGivenBack (by_key version files) root (expansion again root)

-- the reader, which begins with the first file, reads each of the expanded files
abbrev pub MeetsEach : LinuxVersion → List ExpandedFile → List ℕ → Type 0
MeetsEach version files root = (key : List ℕ) → has_key files key ≡ true → is_in_list key (paths_read (by_key version files) root) ≡ true

-- an outcome of an expansion returns just these expanded files: the same texts under the same keys, and each key is also the path
pub record IsSameTree (files : List ExpandedFile) (o : Outcome (List ExpandedFile)) : Type 0 where
  pub expanded : List ExpandedFile
  pub ending : o.ending ≡ returned expanded
  pub paths : All (λ (f : ExpandedFile). f.key ≡ f.path) expanded
  pub texts : (key : List ℕ) → text_of_key expanded key ≡ text_of_key files key

-- the expansion of expanded files returns all of them, where the reader accepts them and reads each
abbrev pub AllFilesStay : Type 0
AllFilesStay = (version : LinuxVersion) (w again : World) (root : List ℕ) (files : List ExpandedFile) → (expansion w root).ending ≡ returned files
    → first_tree_fault (by_key version files) root ≡ None → AreAmong (text_of_key files) again.bytes → MeetsEach version files root → IsSameTree files (expansion again root)

-- An expansion whose files the reader accepts without reading each. Such expansions exist: if a line after a help text expands to
-- nothing, it is blank, and the help text goes on over the indented lines after it, which may include a `source` line.
pub record LosesAFile (version : LinuxVersion) : Type 0 where
  pub world : World
  pub root : List ℕ
  pub files : List ExpandedFile
  pub key : List ℕ
  pub ending : (expansion world root).ending ≡ returned files
  pub accepted : first_tree_fault (by_key version files) root ≡ None
  pub there : has_key files key ≡ true
  pub lost : is_in_list key (paths_read (by_key version files) root) ≡ false

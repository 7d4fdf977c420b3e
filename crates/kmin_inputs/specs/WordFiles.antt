-- The files of the words `@FILE` of a command line, and what the words represent.
use Rattle.std.specs.Prelude.{◌≡◌, ℕ, ◌<◌, Bool, true, false, nat_lt, List, [], ◌∷◌, ◌++◌, Option}
use Rattle.kc_value.specs.FileContents.{FileContent}
use Rattle.kmin_lines.specs.WordLines.{are_utf8}
use Rattle.kmin_lines.specs.WordFiles.{files_of, with_files}
use Rattle.kmin_cli.specs.Inputs.{inputs_named, named_twice}
use Rattle.kmin_inputs.specs.ListFiles.{IsListRead, StopsReadingList, list_content, malformed_line}
use Rattle.kmin_report.specs.Reports.{ErrorLine, refused_line}

-- Files at these paths have these bytes, as far as they are known.
pub data AreFilesRead (content_of : List ℕ → FileContent) (left : Option (List ℕ)) : (paths files : List (List ℕ)) → Type 0 where
  none : AreFilesRead content_of left [] []
  file : (path bytes : List ℕ) (paths files : List (List ℕ)) → IsListRead (list_content content_of left path) bytes → AreFilesRead content_of left paths files
      → AreFilesRead content_of left (path ∷ paths) (bytes ∷ files)

-- whether standard input is the file of a word `@FILE`
abbrev pub is_input_read_for : (words : List (List ℕ)) → Bool
is_input_read_for words = nat_lt 0 (inputs_named (files_of words))

-- These words represent those of the command line: each `@FILE` before a `--` represents the words in its file, which are UTF-8.
pub record Represent (content_of : List ℕ → FileContent) (left : Option (List ℕ)) (words represented : List (List ℕ)) : Type 0 where
  pub files : List (List ℕ)
  pub read : AreFilesRead content_of left (files_of words) files
  pub utf8 : are_utf8 files ≡ true
  pub are : represented ≡ with_files words files

-- The files of the words `@FILE` end a run, with this status and these lines of standard error before those of `last_lines`: two of
-- them are standard input, one can't be read after those before it were, a word in one isn't UTF-8, or memory ran out.
pub data StopsAtWords (content_of : List ℕ → FileContent) (left : Option (List ℕ)) (words : List (List ℕ)) (status : ℕ) (lines : List ErrorLine) : Type 0 where
  twice : 1 < inputs_named (files_of words) → status ≡ 2 → lines ≡ refused_line named_twice ∷ [] → StopsAtWords content_of left words status lines
  unread : (front back files : List (List ℕ)) (path : List ℕ) → files_of words ≡ front ++ path ∷ back → AreFilesRead content_of left front files
      → StopsReadingList (list_content content_of left path) path status lines → StopsAtWords content_of left words status lines
  malformed : (files : List (List ℕ)) → AreFilesRead content_of left (files_of words) files → are_utf8 files ≡ false → status ≡ 2
      → lines ≡ malformed_line ∷ [] → StopsAtWords content_of left words status lines
  for_memory : status ≡ 6 → lines ≡ [] → StopsAtWords content_of left words status lines

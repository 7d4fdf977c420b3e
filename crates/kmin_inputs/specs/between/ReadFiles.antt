-- Where a run ends among files that are read whole.
use Rattle.std.specs.Prelude.{◌≡◌, ℕ, List, [], ◌∷◌, ◌++◌, Option}
use Rattle.kc_value.specs.FileContents.{FileContent}
use Rattle.kmin_inputs.specs.ListFiles.{StopsReadingList, list_content}
use Rattle.kmin_inputs.specs.WordFiles.{AreFilesRead}
use Rattle.kmin_report.specs.Reports.{ErrorLine}

-- one of the files at these paths can't be read after those before it were, or memory ran out
pub data StopsAmongLists (content_of : List ℕ → FileContent) (left : Option (List ℕ)) (paths : List (List ℕ)) (status : ℕ) (lines : List ErrorLine) : Type 0 where
  at_file : (front back files : List (List ℕ)) (path : List ℕ) → paths ≡ front ++ path ∷ back → AreFilesRead content_of left front files
      → StopsReadingList (list_content content_of left path) path status lines → StopsAmongLists content_of left paths status lines
  for_memory : status ≡ 6 → lines ≡ [] → StopsAmongLists content_of left paths status lines

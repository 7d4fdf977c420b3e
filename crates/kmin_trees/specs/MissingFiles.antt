-- Files that count as missing, in a tree that is read without the expansion of macros.
use Rattle.std.specs.Prelude.{◌≡◌, ℕ, List, Ok, Err}
use Rattle.std.specs.List.{All}
use Rattle.kc_value.specs.FileContents.{FileContent, unknown, absent, known}
use Rattle.kc_tree_model.specs.declared.fault.TreeFault.{TreeFault}
use Rattle.kc_tree_model.specs.declared.fault.TreeKind.TheVariants.{MissingFile}
use Rattle.kc_tree_model.specs.TreeFiles.{Files}
use Rattle.kc_tree_model.specs.TreesOfFiles.{IsReportedFault, AreWanted}
use Rattle.kc_files.specs.TreeContents.{HasRisen}
use Rattle.kmin_inputs.specs.FileContents.{path_below}

-- a file of this known content may count as missing, where the count of failures went from one number to another: the file isn't
-- known to be there, or the count rose
abbrev pub MayBeMissing : FileContent → (failed failed_after : ℕ) → Type 0
MayBeMissing unknown failed failed_after = Unit {0}
MayBeMissing absent failed failed_after = Unit {0}
MayBeMissing (known bytes) failed failed_after = HasRisen failed failed_after

-- the reading of these texts lacks no file, or each file that it lacks may count as missing
pub data LacksOnlyMissing (content_of : List ℕ → FileContent) (root first : List ℕ) (texts : Files) (failed failed_after : ℕ) : Type 0 where
  lacks_none : (fault : TreeFault) → AreWanted texts first (Err fault) → LacksOnlyMissing content_of root first texts failed failed_after
  lacks_some : (paths : List (List ℕ)) → AreWanted texts first (Ok paths)
      → All (λ path. MayBeMissing (content_of (path_below root path)) failed failed_after) paths → LacksOnlyMissing content_of root first texts failed failed_after

-- where these texts are refused for a missing file, their reading lacks only files that may count as missing
abbrev pub MissesOnlyMissing : (content_of : List ℕ → FileContent) → (root first : List ℕ) → Files → (failed failed_after : ℕ) → Type 0
MissesOnlyMissing content_of root first texts failed failed_after = (fault : TreeFault) → IsReportedFault texts first fault → fault.kind ≡ MissingFile
    → LacksOnlyMissing content_of root first texts failed failed_after

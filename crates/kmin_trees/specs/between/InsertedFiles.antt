-- The files of some paths, as they are inserted among the texts of a tree.
use Rattle.std.specs.Prelude.{◌≡◌, ℕ, ◌≤◌, List, None, length}
use Rattle.std.specs.List.{All}
use Rattle.kc_value.specs.FileContents.{FileContent}
use Rattle.kc_tree_model.specs.TreeFiles.{Files, file_at}
use Rattle.kmin_inputs.specs.FileContents.{path_below}
use Rattle.kmin_trees.specs.MissingFiles.{MayBeMissing}

-- each of these files that the texts lack may count as missing
abbrev pub AreTried : (content_of : List ℕ → FileContent) → (root : List ℕ) → (paths : List (List ℕ)) → Files → (failed failed_after : ℕ) → Type 0
AreTried content_of root paths texts failed failed_after =
    All (λ path. file_at texts path ≡ None → MayBeMissing (content_of (path_below root path)) failed failed_after) paths

-- files of these paths came to the texts; where none did, each of them that the texts lack may count as missing
pub record AreInserted (content_of : List ℕ → FileContent) (root : List ℕ) (paths : List (List ℕ)) (before after : Files) (failed failed_after : ℕ) : Type 0 where
  pub grows : length before.list ≤ length after.list
  pub same : length after.list ≤ length before.list → after ≡ before
  pub tried : length after.list ≤ length before.list → AreTried content_of root paths before failed failed_after

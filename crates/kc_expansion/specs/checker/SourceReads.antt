-- The files and lists that a `source` line reads.
use Rattle.std.specs.Prelude.{List, ℕ, ◌∷◌, ◌<◌, ◌≤◌, length}
use Rattle.kc_value.specs.declared.limits.TheConstants.{MAX_OPEN_FILES, MAX_TREE_BYTES}
use Rattle.kc_tree_model.specs.LogicalLines.{split_at_newlines}
use Rattle.kc_macros_model.specs.Programs.{Program, returns, ◌>>=◌}
use Rattle.kc_macros_model.specs.ReadingStates.{ReadingState, Progress, stored_file}
use Rattle.kc_macros_model.specs.TreeExpansion.{lines_read}
use Rattle.kc_macros.specs.between.SliceTexts.{texts_of_slices}
use Rattle.kc_expansion.specs.between.Reads.{FileRun}
use Rattle.kc_expansion.specs.checker.ProgramSteps.{Leads}
use Rattle.kc_expansion.specs.checker.ReadingViews.{reader_for}
use Rattle.kc_expansion.specs.declared.open_files.OpenFiles.{OpenFiles}

-- the file or list of a path may be read, where these files are open: its reading `whole` leads to that of its lines with it
-- open, and the storing of its text
pub record Opens (a b : FileRun) (opened : OpenFiles) (path : List ℕ) (whole : Program Progress) (lines : List (List ℕ) → Program Progress) : Type 0 where
  pub few : length (texts_of_slices opened.paths.now) < MAX_OPEN_FILES
  pub leads : Leads a whole b (lines (path ∷ texts_of_slices opened.paths.now) >>= λ p. returns (stored_file opened.root.now path p))

-- the file of a path may be read with these bytes, where these files are open: its reading `whole` leads to that of its lines
pub record OpensFile (a b : FileRun) (opened : OpenFiles) (path : List ℕ) (whole : Program Progress) (t : ReadingState) (bytes : List ℕ) : Type 0 where
  pub small : length bytes ≤ MAX_TREE_BYTES
  pub opens : Opens a b opened path whole (λ paths. lines_read (reader_for opened.root.now paths) path 0 1 (split_at_newlines bytes) t)

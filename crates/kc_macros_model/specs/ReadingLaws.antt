-- Laws of the reading of a tree: its counts and its work are bounded, and so are the keys of its files.
use Rattle.std.specs.Prelude.{◌≡◌, ℕ, suc, ◌+◌, ◌≤◌, true, List, [], ◌∷◌, ◌++◌, length, map, decimal, bytes_eq}
use Rattle.std.specs.List.{All, IsDistinct}
use Rattle.kc_tree_model.specs.LogicalLines.{split_at_newlines}
use Rattle.kc_value.specs.declared.limits.TheConstants.{MAX_FILES, MAX_TREE_BYTES, MAX_LISTED_NAMES, MAX_OPEN_FILES, MAX_WORK}
use Rattle.kc_macros_model.specs.Programs.{Place, spend, Program, returns, fails, stops, does}
use Rattle.kc_macros_model.specs.ReadingStates.{ExpandedFile, ReadingState, initial_state, Progress, counted, has_key}
use Rattle.kc_macros_model.specs.TreeExpansion.{SourceTarget, source_read, lines_read, tree_read}
use Rattle.kc_macros_model.specs.Worlds.{World, reply, returned, expansion}
use Rattle.kc_macros_model.specs.ExpansionRules.{ending_in}

-- the counts of files, bytes and listed names of a state of a reading are within the limits
pub record IsWithinLimits (s : ReadingState) : Type 0 where
  pub files : s.files ≤ MAX_FILES
  pub bytes : s.bytes ≤ MAX_TREE_BYTES
  pub listed : s.listed ≤ MAX_LISTED_NAMES

-- reading a sourced file or list of files leads from a state within the limits to a state within the limits
abbrev pub CountsAreBounded : Type 0
CountsAreBounded = (w : World) (more : ℕ) (root : List ℕ) (open_files : List (List ℕ)) (at : Place) (what : SourceTarget) (s : ReadingState) (p : Progress)
    → IsWithinLimits s → ending_in w (source_read more root open_files at what s) ≡ returned p → IsWithinLimits p.state

-- reading the first file of a tree, with all that its lines source, ends in a state within the limits
abbrev pub TreeCountsAreBounded : Type 0
TreeCountsAreBounded = (w : World) (root bytes : List ℕ) (p : Progress) → length bytes ≤ MAX_TREE_BYTES
    → ending_in w (lines_read (source_read MAX_OPEN_FILES root (root ∷ [])) root 0 1 (split_at_newlines bytes) (counted (length bytes) initial_state))
    ≡ returned p → IsWithinLimits p.state

-- a key is possible for an expanded file of this path: it is the path, or the path with `#` and a number from 2 on
pub data IsKeyOf (path : List ℕ) : List ℕ → Type 0 where
  the_path : IsKeyOf path path
  numbered : {n : ℕ} → 2 ≤ n → n ≤ MAX_FILES → IsKeyOf path (path ++ 35 ∷ decimal n)

-- the key of each expanded file of a tree is its path, or its path with `#` and a number
abbrev pub KeysAreBounded : Type 0
KeysAreBounded = (w : World) (root : List ℕ) (files : List ExpandedFile) → (expansion w root).ending ≡ returned files
    → All (λ (f : ExpandedFile). IsKeyOf f.path f.key) files

-- no two expanded files of a tree have the same key
abbrev pub KeysDiffer : Type 0
KeysDiffer = (w : World) (root : List ℕ) (files : List ExpandedFile) → (expansion w root).ending ≡ returned files
    → IsDistinct bytes_eq (map (λ (f : ExpandedFile). f.key) files)

-- the key that reading a sourced file or list of files returns is that of an expanded file
abbrev pub SourceKeysHaveFiles : Type 0
SourceKeysHaveFiles = (w : World) (more : ℕ) (root : List ℕ) (open_files : List (List ℕ)) (at : Place) (what : SourceTarget) (s : ReadingState) (p : Progress)
    → ending_in w (source_read (suc more) root open_files at what s) ≡ returned p → has_key p.state.expanded p.text ≡ true

-- no tree has more expanded files than `MAX_FILES`, the most files that may be read
abbrev pub FilesAreBounded : Type 0
FilesAreBounded = (w : World) (root : List ℕ) (files : List ExpandedFile) → (expansion w root).ending ≡ returned files → length files ≤ MAX_FILES

-- the work that a program does in a world, from its first event to its end
abbrev pub work_in : {A : Type 0} → World → Program A → ℕ
work_in w (returns x) = 0
work_in w (fails f) = 0
work_in w stops = 0
work_in w (does (spend at work) k) = work + work_in w (k (tt {0}))
work_in w (does e k) = work_in w (k (reply w e))

-- where an expansion returns files, its work and the work that is left add up to `MAX_WORK`
abbrev pub WorkIsBounded : Type 0
WorkIsBounded = (w : World) (root : List ℕ) (files : List ExpandedFile) → (expansion w root).ending ≡ returned files
    → work_in w (tree_read root) + (expansion w root).left ≡ MAX_WORK

-- What a reading keeps: a fact of its states, of the lines that are written for a file, and of its expanded files.
use Rattle.kc_macros_model.proofs.Common.{◌≡◌, ℕ, suc, ◌+◌, ◌<◌, ◌≤◌, true, false, List, [], ◌∷◌, ◌++◌, length, take, drop, map, Some, None, arith, is_in_list, PhysicalLine, split_at_newlines, without_return, joined_bytes}
use Rattle.kc_macros_model.proofs.Common.{continuation_count, MAX_FILES, MAX_TREE_BYTES, MAX_LISTED_NAMES, Place, Variable, ReadingState, Progress, WrittenLine, bound, with_choice, with_listed, counted, stored_file, list_name, bytes_of_lines}
use Rattle.kc_macros_model.proofs.Common.{lines_written, help_after, source_fault, IsWrittenFor, IsWithinLimits, initial_state, ExpandedFile}
use Rattle.kc_tree_model.proofs.SourceFaults.{faultless}
use Rattle.kc_macros_model.specs.declared.source_kinds.TheConstants.{MACRO_KINDS}
use Rattle.kc_macros_model.proofs.CleanTexts.{IsClean}
use Rattle.kc_macros_model.proofs.LineCounts.{AreCleanLines}
use Rattle.kc_macros_model.proofs.LinePlaces.{AreEnded}
use Rattle.kc_macros_model.proofs.ProgramMatches.{Fits, Comparison}

-- facts that each step of the first reading keeps: of a state and of how many more files are open in it than the first, of the text
-- that is written for the lines of a file from a number on, and of the expanded files of the whole tree
pub record Invariant (c : Comparison) (root : List ℕ) : Type 1 where
  pub holds : ℕ → ReadingState → Type 0
  pub written : (file : List ℕ) → ℕ → List PhysicalLine → List ℕ → Type 0
  pub whole : List ExpandedFile → Type 0
  pub begins : (n : ℕ) → n ≤ MAX_TREE_BYTES → holds 0 (counted n initial_state)
  pub binds : (k : ℕ) (name : List ℕ) (v : Variable) (s : ReadingState) → holds k s → holds k (bound name v s)
  pub chooses : (k : ℕ) (name : List ℕ) (s : ReadingState) → holds k s → holds k (with_choice name s)
  pub listed : (k : ℕ) (s : ReadingState) → holds k s → s.listed ≤ MAX_LISTED_NAMES
  pub lists : (k n : ℕ) (s : ReadingState) → n ≤ MAX_LISTED_NAMES → holds k s → holds k (with_listed n s)
  pub counts : (k n : ℕ) (s : ReadingState) → s.files < MAX_FILES → s.bytes + n ≤ MAX_TREE_BYTES → holds k s → holds (suc k) (counted n s)
  pub no_lines : (file : List ℕ) (n : ℕ) → written file n [] []
  pub next_line : (file : List ℕ) (n : ℕ) (l : PhysicalLine) (ls : List PhysicalLine) (line : WrittenLine) (rest : List ℕ)
      → AreCleanLines (l ∷ ls) → AreEnded (l ∷ ls) → IsWrittenFor c.first file n l ls line → Fits c.newlines line.text
      → let more = continuation_count (map without_return (l ∷ ls)) in
      let help = help_after line.begins_help (drop more ls) in
      written file (n + 1 + (more + help)) (drop (more + help) ls) rest → written file n (l ∷ ls)
      (lines_written (l ∷ take more ls) (joined_bytes (map without_return (l ∷ ls))) line.text ++ (bytes_of_lines (take help (drop more ls)) ++ rest))
  pub keeps_file : (k : ℕ) (path bytes : List ℕ) (p : Progress) → c.first.bytes path ≡ Some bytes → written path 1 (split_at_newlines bytes) p.text
      → holds (suc k) p.state → holds k (stored_file root path p).state
  pub keeps_list : (k : ℕ) (name : List ℕ) (p : Progress) → (c.newlines ≡ false → (from : Place) × (name ≡ list_name from) × IsClean from.file)
      → holds (suc k) p.state → holds k (stored_file root name p).state
  pub keeps_root : (bytes : List ℕ) (p : Progress) → c.first.bytes root ≡ Some bytes → written root 1 (split_at_newlines bytes) p.text → holds 0 p.state
      → whole (p.state.expanded ++ record { key = root; path = root; text = p.text } ∷ [])

-- a source that is no fault is within the limits
pub room_for : (open_files : List (List ℕ)) (s : ReadingState) (path bytes : List ℕ) → source_fault open_files s path (Some bytes) ≡ None
    → (s.files < MAX_FILES) × (s.bytes + length bytes ≤ MAX_TREE_BYTES)
room_for open_files s path bytes e =
    let f = faultless MACRO_KINDS (is_in_list path open_files) true (length open_files) s.files (s.bytes + length bytes) e in
    (f.few_files, f.few_bytes)

-- the first file is within the limits
pub first_within : (n : ℕ) → n ≤ MAX_TREE_BYTES → IsWithinLimits (counted n initial_state)
first_within n h = record { files = omega arith; bytes = omega (arith, h); listed = omega arith }

pub counted_within : (n : ℕ) (s : ReadingState) → s.files < MAX_FILES → s.bytes + n ≤ MAX_TREE_BYTES → IsWithinLimits s → IsWithinLimits (counted n s)
counted_within n s h b g = record { files = omega (arith, h); bytes = b; listed = g.listed }

-- each step of a reading keeps the limits
abbrev pub limits_kept : (c : Comparison) (root : List ℕ) → Invariant c root
limits_kept c root = record {
  holds = λ k s. IsWithinLimits s;
  written = λ file n ls text. Unit {0};
  whole = λ files. Unit {0};
  begins = first_within;
  binds = λ k name v s g. record { files = g.files; bytes = g.bytes; listed = g.listed };
  chooses = λ k name s g. record { files = g.files; bytes = g.bytes; listed = g.listed };
  listed = λ k s g. g.listed;
  lists = λ k n s h g. record { files = g.files; bytes = g.bytes; listed = h };
  counts = λ k n s h b g. counted_within n s h b g;
  no_lines = λ file n. tt;
  next_line = λ file n l ls line rest a b d e f. tt;
  keeps_file = λ k path bytes p e h g. record { files = g.files; bytes = g.bytes; listed = g.listed };
  keeps_list = λ k name p f g. record { files = g.files; bytes = g.bytes; listed = g.listed };
  keeps_root = λ bytes p e h g. tt;
}

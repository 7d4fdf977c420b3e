-- The first fault of a `source`, by its conditions.
use Rattle.kc_tree_model.proofs.Common.{◌≡◌, ◌+◌, ◌<◌, ◌≤◌, ℕ, Bool, true, false, not, cond, ◌||◌, List, length, sum_by, Some, None, is_some, refl, nat_le, nat_lt, leb-false, ltb-false, MAX_FILES, MAX_TREE_BYTES, MAX_OPEN_FILES, Group, FileSource, is_in_list, size_in, open_files, files_read}
use Rattle.kc_tree_model.specs.Limits.{source_fault}
use Rattle.kc_tree_model.specs.SourceFaults.{fault_of_source}
use Rattle.kc_tree_model.specs.declared.source_faults.SourceKinds.{SourceKinds}
use Rattle.kc_tree_model.specs.declared.source_faults.TheConstants.{TREE_KINDS}

-- the file of a `source` isn't open and is there, and passes no limit
pub record IsFaultless (is_open is_there : Bool) (open_count files bytes : ℕ) : Type 0 where
  pub closed : is_open ≡ false
  pub there : is_there ≡ true
  pub few_open : open_count < MAX_OPEN_FILES
  pub few_files : files < MAX_FILES
  pub few_bytes : bytes ≤ MAX_TREE_BYTES

pub faultless : {K : Type 0} (kinds : SourceKinds K) (is_open is_there : Bool) (open_count files bytes : ℕ)
    → fault_of_source kinds is_open is_there open_count files bytes ≡ None → IsFaultless is_open is_there open_count files bytes
faultless kinds is_open is_there open_count files bytes h =
    by_tests is_open is_there (nat_le MAX_OPEN_FILES open_count) (nat_le MAX_FILES files) (nat_lt MAX_TREE_BYTES bytes) refl refl refl h
  where
    by_tests : (opened there deep many large : Bool) → nat_le MAX_OPEN_FILES open_count ≡ deep → nat_le MAX_FILES files ≡ many → nat_lt MAX_TREE_BYTES bytes ≡ large
        → cond opened (Some kinds.source_loop) (cond (not there) (Some kinds.missing_file) (cond deep (Some kinds.too_deep)
        (cond (many || large) (Some kinds.too_many) None))) ≡ None
        → IsFaultless opened there open_count files bytes
    by_tests false true false false false d m l h = record {
      closed = refl;
      there = refl;
      few_open = leb-false MAX_OPEN_FILES open_count d;
      few_files = leb-false MAX_FILES files m;
      few_bytes = ltb-false MAX_TREE_BYTES bytes l;
    }
    by_tests opened there deep many large d m l h = absurd (let z : ⊥ = cc in z)

-- a `source` without a fault has none by the kinds of another reader
pub faultless_for : {K L : Type 0} (kinds : SourceKinds K) (others : SourceKinds L) (is_open is_there : Bool) (open_count files bytes : ℕ)
    → fault_of_source kinds is_open is_there open_count files bytes ≡ None → fault_of_source others is_open is_there open_count files bytes ≡ None
faultless_for kinds others is_open is_there open_count files bytes h =
    by_tests is_open is_there (nat_le MAX_OPEN_FILES open_count) (nat_le MAX_FILES files || nat_lt MAX_TREE_BYTES bytes) h
  where
    by_tests : (opened there deep many : Bool)
        → cond opened (Some kinds.source_loop) (cond (not there) (Some kinds.missing_file) (cond deep (Some kinds.too_deep)
        (cond many (Some kinds.too_many) None))) ≡ None
        → cond opened (Some others.source_loop) (cond (not there) (Some others.missing_file) (cond deep (Some others.too_deep)
        (cond many (Some others.too_many) None))) ≡ None
    by_tests false true false false h = refl
    by_tests opened there deep many h = absurd (let z : ⊥ = cc in z)

-- a `source` of a tree without a fault
pub faultless_source : (r : FileSource) (read : List Group) (path : List ℕ) → source_fault r read path ≡ None
    → IsFaultless (is_in_list path (open_files r read)) (is_some (r.bytes path)) (length (open_files r read)) (length (files_read r read))
    (sum_by (size_in r) (files_read r read) + size_in r path)
unfolding source_fault
faultless_source r read path h =
    faultless TREE_KINDS (is_in_list path (open_files r read)) (is_some (r.bytes path)) (length (open_files r read)) (length (files_read r read))
    (sum_by (size_in r) (files_read r read) + size_in r path) h

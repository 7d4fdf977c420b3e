-- Faults of `source` lines.
use Rattle.kc_expansion.proofs.Common.{◌≡◌, ℕ, ◌+◌, ◌<◌, Bool, true, false, cond, ◌||◌, List, [], ◌∷◌, ◌++◌, length, reverse, Option, Some, None, is_some, refl, ap, sym, ◌∙◌, subst, arith, bytes_eq, nat_le, Bor, list_any, reverse-append, is_in_list, MAX_FILES, MAX_TREE_BYTES}
use Rattle.kc_expansion.proofs.Common.{MAX_OPEN_FILES, ReadingState, MacroKind, ReadCounts, FileRead, missing, unreadable, whole, too_long, AreBytes, size_read, texts_of_slices, MayBeRead, MayNotBeRead}
use Rattle.std.specs.Option.{unwrap_or}
use Rattle.std.proofs.lemmas.Bool.{lt-ltb}
use Rattle.kc_value.specs.declared.limits.TheConstants.{MAX_FILE_BYTES}
use Rattle.kc_tree_model.specs.SourceFaults.{fault_of_source}
use Rattle.kc_tree_model.proofs.SourceFaults.{faultless}
use Rattle.kc_macros_model.specs.declared.fault.MacroKind.TheVariants.{SourceLoop, TooDeep, TooMany}
use Rattle.kc_macros_model.specs.declared.source_kinds.TheConstants.{MACRO_KINDS}
use Rattle.kc_macros_model.specs.TreeExpansion.{source_fault}
use Rattle.kc_expansion.specs.checker.ReadingViews.{AreCounts}

pub any_both : (x : List ℕ) (xs ys : List (List ℕ)) → is_in_list x (xs ++ ys) ≡ (is_in_list x xs || is_in_list x ys)
any_both x [] ys = refl
any_both x (y ∷ xs) ys = by_test (bytes_eq y x) (any_both x xs ys)
  where
    by_test : (b : Bool) → is_in_list x (xs ++ ys) ≡ (is_in_list x xs || is_in_list x ys) → (b || is_in_list x (xs ++ ys))
        ≡ ((b || is_in_list x xs) || is_in_list x ys)
    by_test true ih = refl
    by_test false ih = ih

pub or_turned : (a b : Bool) → (a || (b || false)) ≡ (b || a)
or_turned true true = refl
or_turned true false = refl
or_turned false true = refl
or_turned false false = refl

-- a path is in a list of paths exactly if it is in the reversed list
pub in_reverse : (x : List ℕ) (xs : List (List ℕ)) → is_in_list x (reverse xs) ≡ is_in_list x xs
in_reverse x [] = refl
in_reverse x (y ∷ xs) = ap (is_in_list x) (reverse-append (y ∷ []) xs) ∙ any_both x (reverse xs) (y ∷ []) ∙ or_turned (is_in_list x (reverse xs)) (bytes_eq y x)
    ∙ ap (λ b. bytes_eq y x || b) (in_reverse x xs)

-- a path is equal to the slice of an open file exactly if it is in the list of the paths of open files
pub open_by : (path : List ℕ) (os : List (Bor (List ℕ))) → list_any (λ (o : Bor (List ℕ)). bytes_eq o.now path) os ≡ is_in_list path (texts_of_slices os)
open_by path [] = refl
open_by path (o ∷ os) = ap (λ b. bytes_eq o.now path || b) (open_by path os)

or_true : (b : Bool) → (b || true) ≡ true
or_true true = refl
or_true false = refl

-- a file with too many bytes has a fault, whatever was read before it
too_large : (is_open : Bool) (open_count files bytes : ℕ) → MAX_TREE_BYTES < bytes
    → fault_of_source MACRO_KINDS is_open true open_count files bytes
    ≡ cond is_open (Some SourceLoop) (cond (nat_le MAX_OPEN_FILES open_count) (Some TooDeep) (Some TooMany))
too_large is_open open_count files bytes h =
    ap (λ b. cond is_open (Some SourceLoop) (cond (nat_le MAX_OPEN_FILES open_count) (Some TooDeep) (cond b (Some TooMany) None)))
    (ap (λ b. nat_le MAX_FILES files || b) (lt-ltb MAX_TREE_BYTES bytes h) ∙ or_true (nat_le MAX_FILES files))

module _ (open_files : List (List ℕ)) (counts : ReadCounts) (path : List ℕ) where
  -- the first fault of a file of this size, None if it can't be read
  abbrev pub fault_now : Option ℕ → Option MacroKind
  fault_now size = fault_of_source MACRO_KINDS (is_in_list path open_files) (is_some size) (length open_files) counts.files (counts.bytes + unwrap_or size 0)

  pub fault_seen : (read : FileRead) (fault : Option MacroKind) (known : Option ℕ) (is_open there : Bool) (open_count size : ℕ)
      → fault ≡ fault_of_source MACRO_KINDS is_open there open_count counts.files (counts.bytes + size) → known ≡ size_read read
      → is_open ≡ is_in_list path open_files → there ≡ is_some known → open_count ≡ length open_files → size ≡ unwrap_or known 0
      → fault ≡ fault_now (size_read read)
  fault_seen read fault known is_open there open_count size e a b c d f = e ∙ rw (b, c, d, f, a) refl

  same_fault : (read : FileRead) (s : ReadingState) → AreCounts counts s → (bytes : Option (List ℕ)) → AreBytes read bytes
      → source_fault open_files s path bytes ≡ fault_now (size_read read)
  same_fault missing s c bytes h = ap (source_fault open_files s path) h
  same_fault unreadable s c bytes h = ap (source_fault open_files s path) h
  same_fault (whole there) s c bytes h =
      ap (source_fault open_files s path) h
      ∙ ap (λ k. fault_of_source MACRO_KINDS (is_in_list path open_files) true (length open_files) k (s.bytes + length there)) c.files
      ∙ ap (λ k. fault_of_source MACRO_KINDS (is_in_list path open_files) true (length open_files) counts.files (k + length there)) c.bytes
  same_fault too_long s c bytes (more, b, l) =
      ap (source_fault open_files s path) b
      ∙ too_large (is_in_list path open_files) (length open_files) s.files (s.bytes + length more) (omega (arith, l))
      ∙ sym (too_large (is_in_list path open_files) (length open_files) counts.files (counts.bytes + MAX_FILE_BYTES) (omega arith))

  pub refused : (read : FileRead) (kind : MacroKind) → fault_now (size_read read) ≡ Some kind → MayNotBeRead open_files counts path read kind
  refused read kind e = record { is_fault = λ s c bytes h. same_fault read s c bytes h ∙ e }

  pub read_whole : (read : FileRead) (there : List ℕ) → read ≡ whole there → fault_now (size_read read) ≡ None → MayBeRead open_files counts path read there
  read_whole read there m e =
      let f = faultless MACRO_KINDS (is_in_list path open_files) true (length open_files) counts.files (counts.bytes + length there)
      (subst (λ (r : FileRead). fault_now (size_read r) ≡ None) m e) in
      record {
        is_whole = m;
        no_fault = λ s c. same_fault read s c (Some there) (subst (λ (r : FileRead). AreBytes r (Some there)) (sym m) refl) ∙ e;
        few_files = f.few_files;
        few_bytes = f.few_bytes;
        few_open = f.few_open;
      }

-- A file that can be read is accepted within the limits.
use Rattle.kc_minimal_model.proofs.Common.{◌≡◌, ℕ, zero, suc, ◌≤◌, Bool, true, false, ◌&&◌, IsTrue, cond, List, [], ◌∷◌, ◌++◌, Option, Some, length, map, filter, refl, sym, ap, ◌∙◌, subst, arith, length-append, slice_get, nat_le, AllZip, list_all, flat_map, and_parts, leb-true, length-map}
use Rattle.kc_minimal_model.proofs.Common.{IsUtf8-from_is_utf8, Tree, IsConsistent, unit_of, Solves, FitsUsers, Profile, UnitValue, UserValue, FileFormat, is_name_prefix, LineMeaning, Means, without_white_end, FileMeans, file_lines, has_utf8_lines, MAX_CONFIG_BYTES, MAX_CONFIG_LINES, MAX_LINE_BYTES}
use Rattle.kc_minimal_model.proofs.Common.{IsAccepted, ended_line, has_line, has_short_lines}
use Rattle.std.specs.Str.{is_utf8}
use Rattle.kc_rules_model.specs.Rule.{rule}
use Rattle.kc_rules_model.specs.Shapes.{user_fits}
use Rattle.kc_dotconfig_model.proofs.AcceptedLines.{accepted_of_lines}
use Rattle.kc_minimal_model.specs.SymbolLine.{symbol_line}
use Rattle.kc_minimal_model.specs.FileLimits.{ReadFilesAreAccepted}
use Rattle.kc_minimal_model.proofs.MinimalLineList.{lines_of_symbols, lines_are_utf8}
use Rattle.kc_minimal_model.proofs.LeastFile.{lines_mean}
use Rattle.kc_minimal_model.proofs.KeptLines.{meant}

-- each element of a list passes a test that all of them pass
pub passes_at : {X : Type 0} (p : X → Bool) (xs : List X) (i : ℕ) (x : X) → list_all p xs ≡ true → slice_get xs i ≡ Some x → p x ≡ true
passes_at p [] i x all at = cc
passes_at p (y ∷ xs) zero x all at = let same : y ≡ x = cc in ap p (sym same) ∙ (and_parts (p y) (list_all p xs) all).0
passes_at p (y ∷ xs) (suc i) x all at = passes_at p xs i x (and_parts (p y) (list_all p xs) all).1 at

-- a line of a file that has a meaning
line_means : (format : FileFormat) (tree : Tree) (lines : List (List ℕ)) (meanings : List LineMeaning) (i : ℕ) (line : List ℕ)
    → AllZip (λ l meaning. Means format tree (without_white_end l) meaning) lines meanings → slice_get lines i ≡ Some line
    → (meaning : LineMeaning) × Means format tree (without_white_end line) meaning
line_means format tree [] meanings i line all at = cc
line_means format tree (l ∷ lines) [] i line all at = absurd all
line_means format tree (l ∷ lines) (meaning ∷ meanings) zero line all at =
    let same : l ≡ line = cc in (meaning, subst (λ k. Means format tree (without_white_end k) meaning) same all.0)
line_means format tree (l ∷ lines) (meaning ∷ meanings) (suc i) line all at = line_means format tree lines meanings i line all.1 at

-- a configuration file whose lines are UTF-8 and have meanings is accepted if it is within the limits of bytes, lines
-- and line lengths
pub accepted_within : (format : FileFormat) (tree : Tree) (bytes : List ℕ) (meanings : List LineMeaning) → has_utf8_lines bytes ≡ true
    → FileMeans format tree bytes meanings
    → length bytes ≤ MAX_CONFIG_BYTES → length (file_lines bytes) ≤ MAX_CONFIG_LINES → has_short_lines bytes ≡ true → IsAccepted format tree bytes
accepted_within format tree bytes meanings utf8 has_meaning small few short = accepted_of_lines format tree bytes small few (λ i line at.
    let meaning = line_means format tree (file_lines bytes) meanings i line has_meaning at in
    record {
      short = leb-true (length line) MAX_LINE_BYTES (passes_at (λ (l : List ℕ). nat_le (length l) MAX_LINE_BYTES) (file_lines bytes) i line short at);
      utf8 = IsUtf8-from_is_utf8 line (passes_at is_utf8 (file_lines bytes) i line utf8 at);
      meaning = meaning.0;
      has_meaning = meaning.1;
    })

pub read_accepted : ReadFilesAreAccepted
read_accepted format profile tree bytes values reads small few short =
    accepted_within format tree bytes reads.meanings reads.utf8 reads.has_meaning small few short

all_of_map : {X Y : Type 0} (p : Y → Bool) (f : X → Y) (xs : List X) → list_all p (map f xs) ≡ list_all (λ x. p (f x)) xs
all_of_map p f [] = refl
all_of_map p f (x ∷ xs) = ap (λ b. p (f x) && b) (all_of_map p f xs)

module _ (format : FileFormat) (valid : is_name_prefix format.prefix ≡ true) (profile : Profile) (tree : Tree) (sound : IsConsistent tree)
    (users : List (Option UserValue)) (values : List UnitValue)
    (fitting : FitsUsers (length tree.units) (λ u x. IsTrue (user_fits tree u x)) users)
    (solved : Solves (length tree.units) (rule profile tree) users values) where
  -- whether the line of a symbol in a configuration file has at most `MAX_LINE_BYTES` bytes
  abbrev pub is_short : ℕ → Bool
  is_short s = nat_le (length (symbol_line format tree values s)) MAX_LINE_BYTES

  short_lines : (xs : List ℕ) → list_all (has_line profile tree values) xs ≡ true
      → has_short_lines (flat_map (ended_line format tree values) xs) ≡ list_all is_short xs
  short_lines xs all =
      ap (list_all (λ (line : List ℕ). nat_le (length line) MAX_LINE_BYTES))
      (lines_of_symbols format valid profile tree sound users values fitting solved xs all)
      ∙ all_of_map (λ (line : List ℕ). nat_le (length line) MAX_LINE_BYTES) (symbol_line format tree values) xs

  -- the lines of some symbols of the minimal file are an accepted file, if each line is short and all together are
  -- within the limits
  pub accepted_symbols : (xs : List ℕ) → list_all (has_line profile tree values) xs ≡ true → list_all is_short xs ≡ true → length xs ≤ MAX_CONFIG_LINES
      → length (flat_map (ended_line format tree values) xs) ≤ MAX_CONFIG_BYTES
      → IsAccepted format tree (flat_map (ended_line format tree values) xs)
  accepted_symbols xs all short few small =
      let bytes = flat_map (ended_line format tree values) xs in
      let lines = ap length (lines_of_symbols format valid profile tree sound users values fitting solved xs all) in
      let count = length-map xs (symbol_line format tree values) in
      accepted_within format tree bytes (map (λ s. meant tree.language values (unit_of tree s)) xs)
      (lines_are_utf8 format valid profile tree sound users values fitting solved xs all)
      (lines_mean format valid profile tree sound users values fitting solved xs all) small (omega (arith, lines, count, few)) (short_lines xs all ∙ short)

  pub shorts_of_file : (xs : List ℕ) → list_all (has_line profile tree values) xs ≡ true → has_short_lines (flat_map (ended_line format tree values) xs) ≡ true
      → list_all is_short xs ≡ true
  shorts_of_file xs all short = sym (short_lines xs all) ∙ short

  pub file_of_shorts : (xs : List ℕ) → list_all (has_line profile tree values) xs ≡ true → list_all is_short xs ≡ true
      → has_short_lines (flat_map (ended_line format tree values) xs) ≡ true
  file_of_shorts xs all short = short_lines xs all ∙ short

pub filter_shorter : (p : ℕ → Bool) (xs : List ℕ) → length (filter p xs) ≤ length xs
filter_shorter p [] = omega arith
filter_shorter p (x ∷ xs) = go (p x) (filter_shorter p xs) where
  go : (t : Bool) → length (filter p xs) ≤ length xs → length (cond t (x ∷ filter p xs) (filter p xs)) ≤ length (x ∷ xs)
  go true h = omega arith
  go false h = omega arith

-- the texts of some of the numbers, joined, are no longer than the texts of all of them, joined
pub flat_shorter : (f : ℕ → List ℕ) (p : ℕ → Bool) (xs : List ℕ) → length (flat_map f (filter p xs)) ≤ length (flat_map f xs)
flat_shorter f p [] = omega arith
flat_shorter f p (x ∷ xs) = go (p x) (flat_shorter f p xs) where
  go : (t : Bool) → length (flat_map f (filter p xs)) ≤ length (flat_map f xs)
      → length (flat_map f (cond t (x ∷ filter p xs) (filter p xs))) ≤ length (f x ++ flat_map f xs)
  go true h = let a = length-append (f x) (flat_map f (filter p xs)) in let b = length-append (f x) (flat_map f xs) in omega (arith, a, b, h)
  go false h = let b = length-append (f x) (flat_map f xs) in omega (arith, b, h)

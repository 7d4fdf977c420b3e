-- Some lines of a minimal file, by their numbers, are the lines of some symbols.
use Rattle.kc_minimal_model.proofs.Common.{◌≡◌, inl, inr, ℕ, zero, suc, ◌+◌, ◌<◌, ◌≤◌, Bool, true, false, ◌==◌, cond, IsTrue, List, [], ◌∷◌, ◌++◌, Option, Some, length, map, filter, refl, sym, ap, ◌∙◌, arith, slice_get, flat_map, range_with_len, cases_Bool, eqb-true, eq-eqb, length-map, Tree}
use Rattle.kc_minimal_model.proofs.Common.{IsConsistent, Solves, FitsUsers, get-some, Profile, UnitValue, UserValue, symbol_numbers, FileFormat, is_name_prefix, file_lines, ended_line, has_line, minimal_symbols, minimal_file, with_lines}
use Rattle.kc_rules_model.specs.Rule.{rule}
use Rattle.kc_rules_model.specs.Shapes.{user_fits}
use Rattle.kc_minimal_model.specs.SymbolLine.{symbol_line}
use Rattle.kc_minimal_model.specs.CanonicalText.{at_numbers}
use Rattle.kc_minimal_model.proofs.FileAcceptance.{passes_at}
use Rattle.kc_minimal_model.proofs.Canonical.{symbol_lines}
use Rattle.kc_minimal_model.proofs.LeastFile.{passes_filter}
use Rattle.kc_minimal_model.proofs.MinimalLineList.{minimal_file_lines}

at_numbers_of_map : {X Y : Type 0} (f : X → Y) (keeps : ℕ → Bool) (k : ℕ) (xs : List X) → at_numbers keeps k (map f xs) ≡ map f (at_numbers keeps k xs)
at_numbers_of_map f keeps k [] = refl
at_numbers_of_map {X = X} {Y = Y} f keeps k (x ∷ xs) = go (keeps k) (at_numbers_of_map f keeps (k + 1) xs) where
  go : (t : Bool) → at_numbers keeps (k + 1) (map f xs) ≡ map f (at_numbers keeps (k + 1) xs)
      → cond t (f x ∷ at_numbers keeps (k + 1) (map f xs)) (at_numbers keeps (k + 1) (map f xs)) ≡ map f
      (cond t (x ∷ at_numbers keeps (k + 1) xs) (at_numbers keeps (k + 1) xs))
  go true rest = ap (λ l. f x ∷ l) rest
  go false rest = rest

flat_of_map : (g : List ℕ → List ℕ) (f : ℕ → List ℕ) (xs : List ℕ) → flat_map g (map f xs) ≡ flat_map (λ x. g (f x)) xs
flat_of_map g f [] = refl
flat_of_map g f (x ∷ xs) = ap (λ l. g (f x) ++ l) (flat_of_map g f xs)

apart : (a b : ℕ) → b < a → (a == b) ≡ false
apart a b h = elim (cases_Bool (a == b)) [ inl same ↦ (let e = eqb-true a b same in absurd (omega (arith, e, h))) | inr other ↦ other ]

-- the numbers of a range that pass a test are no less than its first
above : (p : ℕ → Bool) (a n j x : ℕ) → slice_get (filter p (range_with_len a n)) j ≡ Some x → a ≤ x
above p a zero j x at = cc
above p a (suc n) j x at = go (p a) j at (above p (a + 1) n) where
  go : (t : Bool) (j : ℕ) → slice_get (cond t (a ∷ filter p (range_with_len (a + 1) n)) (filter p (range_with_len (a + 1) n))) j ≡ Some x
      → ((k y : ℕ) → slice_get (filter p (range_with_len (a + 1) n)) k ≡ Some y → a + 1 ≤ y) → a ≤ x
  go true zero at next = let same : a ≡ x = cc in omega (arith, same)
  go true (suc j) at next = let later = next j x at in omega (arith, later)
  go false j at next = let later = next j x at in omega (arith, later)

-- whether the number of an element passes a test, where the first one has the number `k`
abbrev keeps_number_of : (ℕ → Bool) → ℕ → List ℕ → ℕ → Bool
keeps_number_of keeps k [] t = false
keeps_number_of keeps k (x ∷ xs) t = cond (t == x) (keeps k) (keeps_number_of keeps (k + 1) xs t)

same_filter : (f g : ℕ → Bool) (xs : List ℕ) → ((j x : ℕ) → slice_get xs j ≡ Some x → f x ≡ g x) → filter f xs ≡ filter g xs
same_filter f g [] same = refl
same_filter f g (x ∷ xs) same =
    ap (λ b. cond b (x ∷ filter f xs) (filter f xs)) (same 0 x refl) ∙ ap (λ l. cond (g x) (x ∷ l) l) (same_filter f g xs (λ j y at. same (suc j) y at))

-- the elements at some numbers are those whose number passes
at_numbers_filtered : (keeps p : ℕ → Bool) (k a n : ℕ)
    → at_numbers keeps k (filter p (range_with_len a n)) ≡ filter (keeps_number_of keeps k (filter p (range_with_len a n))) (filter p (range_with_len a n))
at_numbers_filtered keeps p k a zero = refl
at_numbers_filtered keeps p k a (suc n) = go (p a) (λ h. at_numbers_filtered keeps p h (a + 1) n) where
  go : (t : Bool)
      → ((h : ℕ) → at_numbers keeps h (filter p (range_with_len (a + 1) n)) ≡ filter (keeps_number_of keeps h (filter p (range_with_len (a + 1) n)))
      (filter p (range_with_len (a + 1) n)))
      → at_numbers keeps k (cond t (a ∷ filter p (range_with_len (a + 1) n)) (filter p (range_with_len (a + 1) n)))
      ≡ filter (keeps_number_of keeps k (cond t (a ∷ filter p (range_with_len (a + 1) n)) (filter p (range_with_len (a + 1) n))))
      (cond t (a ∷ filter p (range_with_len (a + 1) n)) (filter p (range_with_len (a + 1) n)))
  go false next = next k
  go true next =
      let rest = filter p (range_with_len (a + 1) n) in
      let later : ℕ → Bool = keeps_number_of keeps (k + 1) rest in
      let all : ℕ → Bool = λ t. cond (t == a) (keeps k) (later t) in
      let same = same_filter later all rest (λ j x at. sym (ap (λ b. cond b (keeps k) (later x))
      (apart x a (let least = above p (a + 1) n j x at in omega (arith, least))))) in
      ap (λ l. cond (keeps k) (a ∷ l) l) (next (k + 1) ∙ same) ∙ ap (λ b. cond (cond b (keeps k) (later a)) (a ∷ filter all rest) (filter all rest))
      (sym (eq-eqb a a refl))

-- the number of an element passes exactly if its element does
number_kept : (keeps p : ℕ → Bool) (k a n j s : ℕ) → slice_get (filter p (range_with_len a n)) j ≡ Some s
    → keeps_number_of keeps k (filter p (range_with_len a n)) s ≡ keeps (k + j)
number_kept keeps p k a zero j s at = cc
number_kept keeps p k a (suc n) j s at = go (p a) j at (λ h. number_kept keeps p h (a + 1) n) where
  go : (t : Bool) (j : ℕ) → slice_get (cond t (a ∷ filter p (range_with_len (a + 1) n)) (filter p (range_with_len (a + 1) n))) j ≡ Some s
      → ((h i x : ℕ) → slice_get (filter p (range_with_len (a + 1) n)) i ≡ Some x
      → keeps_number_of keeps h (filter p (range_with_len (a + 1) n)) x ≡ keeps (h + i))
      → keeps_number_of keeps k (cond t (a ∷ filter p (range_with_len (a + 1) n)) (filter p (range_with_len (a + 1) n))) s ≡ keeps (k + j)
  go true zero at next =
      let same : a ≡ s = cc in
      let number : k ≡ k + 0 = omega arith in
      ap (λ b. cond b (keeps k) (keeps_number_of keeps (k + 1) (filter p (range_with_len (a + 1) n)) s)) (eq-eqb s a (sym same)) ∙ ap keeps number
  go true (suc j) at next =
      let least = above p (a + 1) n j s at in
      let number : (k + 1) + j ≡ k + suc j = omega arith in
      ap (λ b. cond b (keeps k) (keeps_number_of keeps (k + 1) (filter p (range_with_len (a + 1) n)) s)) (apart s a (omega (arith, least)))
      ∙ next (k + 1) j s at ∙ ap keeps number
  go false j at next = next k j s at

module _ (format : FileFormat) (valid : is_name_prefix format.prefix ≡ true) (profile : Profile) (tree : Tree) (sound : IsConsistent tree)
    (users : List (Option UserValue)) (values : List UnitValue)
    (fitting : FitsUsers (length tree.units) (λ u x. IsTrue (user_fits tree u x)) users)
    (solved : Solves (length tree.units) (rule profile tree) users values) where
  -- whether the number of a symbol's line in the minimal file, counted from 0, passes a test
  abbrev pub keeps_symbol : (ℕ → Bool) → ℕ → Bool
  keeps_symbol keeps = keeps_number_of keeps 0 (minimal_symbols profile tree values)

  pub lines_kept : (keeps : ℕ → Bool) → with_lines keeps (minimal_file format profile tree values) ≡ symbol_lines
      (keeps_symbol keeps) format profile tree values
  lines_kept keeps =
      let xs = minimal_symbols profile tree values in
      let ended : List ℕ → List ℕ = λ line. line ++ 10 ∷ [] in
      ap (λ ls. flat_map ended (at_numbers keeps 0 ls)) (minimal_file_lines format valid profile tree sound users values fitting solved)
      ∙ ap (flat_map ended) (at_numbers_of_map (symbol_line format tree values) keeps 0 xs)
      ∙ flat_of_map ended (symbol_line format tree values) (at_numbers keeps 0 xs)
      ∙ ap (flat_map (ended_line format tree values)) (at_numbers_filtered keeps (has_line profile tree values) 0 0 (length tree.symbols))

  -- the minimal file has as many lines as there are symbols with a line
  pub line_count : length (file_lines (minimal_file format profile tree values)) ≡ length (minimal_symbols profile tree values)
  line_count =
      ap length (minimal_file_lines format valid profile tree sound users values fitting solved)
      ∙ length-map (minimal_symbols profile tree values) (symbol_line format tree values)

  -- if the number of a line of the minimal file fails a test, there is a symbol whose line has a number that fails it
  pub symbol_dropped : (keeps : ℕ → Bool) (k : ℕ) → k < length (file_lines (minimal_file format profile tree values)) → keeps k ≡ false
      → (s : ℕ) × (has_line profile tree values s ≡ true) × (keeps_symbol keeps s ≡ false)
  symbol_dropped keeps k below dropped =
      let count = line_count in
      let found = get-some (minimal_symbols profile tree values) k (omega (arith, count, below)) in (
        found.0,
        passes_at (has_line profile tree values) (minimal_symbols profile tree values) k found.0
            (passes_filter (has_line profile tree values) (symbol_numbers tree)) found.1,
        number_kept keeps (has_line profile tree values) 0 0 (length tree.symbols) k found.0 found.1
            ∙ ap keeps (let zero_more : 0 + k ≡ k = omega arith in zero_more) ∙ dropped,
      )

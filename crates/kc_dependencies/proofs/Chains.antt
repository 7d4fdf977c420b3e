-- The dependencies of a unit from what it needs, and those of all units one after the other.
use Rattle.std.proofs.Common.{◌≡◌, inl, inr, ℕ, zero, suc, ◌+◌, ◌-◌, ◌<◌, ◌≤◌, Bool, true, false, ◌&&◌, ◌==◌, eqb, List, [], ◌∷◌, ◌++◌, length, get_or, take, drop, refl, sym, ap, subst, ◌∙◌, add-one, arith}
use Rattle.std.specs.Prelude.{Contains, slice_get, slice_index}
use Rattle.std.specs.List.{AllByRecursion, dedup, filter, range_with_len}
use Rattle.std.specs.List.Sorted.{IsPermutation, IsSorted, IsStrictlyIncreasing}
use Rattle.std.specs.Ordering.{nat_cmp}
use Rattle.std.proofs.lemmas.Bool.{cases_eq, cases_lt, eqb-true, eq-eqb, or_cases, or_left, or_right, false≢true}
use Rattle.std.proofs.lemmas.List.{length-append, length-drop, take-append-le, drop-append-le}
use Rattle.std.proofs.lemmas.List.Elements.{All-contains, Contains-append_right}
use Rattle.std.proofs.lemmas.List.Folds.{list_any_at}
use Rattle.std.proofs.lemmas.List.Kept.{Contains-dedup_nat, Contains-from_dedup}
use Rattle.std.proofs.lemmas.List.Sorted.{list_any-IsPermutation}
use Rattle.std.proofs.lemmas.Map.Keys.{IsStrictlyIncreasing-dedup}
use Rattle.std.proofs.lemmas.Map.Views.{any-filter_same}
use Rattle.std.proofs.Math.Seq.{drop-append_seam, take-length, get_or-append_seam}
use Rattle.std.proofs.Math.ListN.{get_or-append}
use Rattle.kc_tree_model.specs.Trees.{Tree}
use Rattle.kc_rules_model.specs.Dependencies.{dependencies, needed_by}
use Rattle.kc_rules_model.specs.checker.GraphLaw.{rules_graph}
use Rattle.kc_dependencies.specs.checker.Links.{has, AreUnits, LinksBelow}
use Rattle.kc_dependencies.proofs.OrderedLists.{Rises, same_rising, both_same}

has_contains : (xs : List ℕ) (d : ℕ) → has xs d ≡ true → Contains xs d
has_contains [] d e = absurd (false≢true e)
has_contains (x ∷ xs) d e = elim (or_cases (x == d) (has xs d) e) [
  | inl h ↦ (0, omega arith, eqb-true x d h)
  | inr h ↦ Contains-append_right (x ∷ []) xs d (has_contains xs d h)
]

contains_has : (xs : List ℕ) (d : ℕ) → Contains xs d → has xs d ≡ true
contains_has xs d (k, h, e) = list_any_at (λ m. m == d) xs k d h (eq-eqb (get_or xs k d) d e)

dedup_has : (xs : List ℕ) (d : ℕ) → has (dedup eqb xs) d ≡ has xs d
dedup_has xs d = both_same (has (dedup eqb xs) d) (has xs d)
    (λ h. contains_has xs d (Contains-from_dedup eqb xs d (has_contains (dedup eqb xs) d h)))
    (λ h. contains_has (dedup eqb xs) d (Contains-dedup_nat xs d (has_contains xs d h)))

shifted : (x : ℕ) (xs : List ℕ) (k : ℕ) → slice_index (x ∷ xs) (k + 1) ≡ slice_index xs k
shifted x xs k = rw add-one refl

rest_rises : (x : ℕ) (xs : List ℕ) → IsStrictlyIncreasing (x ∷ xs) → IsStrictlyIncreasing xs
rest_rises x xs r = λ k h. omega (arith, r (k + 1) (omega arith), shifted x xs k, shifted x xs (k + 1))

all_above : (x : ℕ) (xs : List ℕ) → IsStrictlyIncreasing (x ∷ xs) → AllByRecursion (λ y. x < y) xs
all_above x [] r = tt
all_above x (y ∷ ys) r =
    let first : x < y = r 0 (omega arith) in
    (first, all_above x ys (λ k h. by_place k h))
  where
    by_place : (k : ℕ) → k + 1 < length (x ∷ ys) → slice_index (x ∷ ys) k < slice_index (x ∷ ys) (k + 1)
    by_place zero h = let a : x < y = r 0 (omega arith) in let b : y < get_or ys 0 0 = r 1 (omega arith) in omega arith
    by_place (suc k) h = omega (arith, r (suc (suc k)) (omega arith), shifted x (y ∷ ys) (suc (suc k)), shifted x ys (suc k))

rises_all : (xs : List ℕ) → IsStrictlyIncreasing xs → Rises xs
rises_all [] r = tt
rises_all (x ∷ xs) r = (all_above x xs r, rises_all xs (rest_rises x xs r))

in_range : (a n d : ℕ) → a ≤ d → d < a + n → has (range_with_len a n) d ≡ true
in_range a zero d low high = absurd (omega arith)
in_range a (suc n) d low high = elim (cases_eq a d) [
  | inl same ↦ or_left (a == d) (has (range_with_len (a + 1) n) d) (eq-eqb a d same)
  | inr other ↦ or_right (a == d) (has (range_with_len (a + 1) n) d) (in_range (a + 1) n d (omega arith) (omega arith))
]

kept_units : (t r : Bool) → (t ≡ true → r ≡ true) → (t && r) ≡ t
kept_units true r f = f refl
kept_units false r f = refl

-- a list of what a unit needs, sorted and without repetitions, is the list of its dependencies
pub sorted_needs : (tree : Tree) (u : ℕ) (found sorted last : List ℕ) → u < length tree.units
    → ((d : ℕ) → has found d ≡ has (needed_by tree (slice_get tree.units u)) d) → AreUnits tree found
    → IsPermutation found sorted → IsSorted nat_cmp sorted → last ≡ dedup eqb sorted → last ≡ dependencies tree u
unfolding dependencies
sorted_needs tree u found sorted last there same below permuted rising e =
    let n : ℕ = length tree.units in
    let needed : ℕ → Bool = has (needed_by tree (slice_get tree.units u)) in
    same_rising last (filter needed (range_with_len 0 (length tree.units)))
    (subst Rises (sym e) (rises_all (dedup eqb sorted) (IsStrictlyIncreasing-dedup sorted rising)))
    (rises_all (filter needed (range_with_len 0 (length tree.units))) ((rules_graph tree).ascending u there))
    (λ d. ap (λ us. has us d) e ∙ dedup_has sorted d ∙ sym (list_any-IsPermutation (λ m. m == d) found sorted permuted) ∙ same d
    ∙ sym (any-filter_same (λ m. m == d) needed (needed d) (λ k h. ap needed (eqb-true k d h)) (range_with_len 0 (length tree.units))
    ∙ kept_units (needed d) (has (range_with_len 0 (length tree.units)) d) (λ h.
    let inside : d < length tree.units = All-contains (λ w. w < length tree.units) found d below (has_contains found d (same d ∙ h)) in
    in_range 0 (length tree.units) d (omega arith) (omega arith))))

earlier : (xs ys : List ℕ) (k : ℕ) → k < length xs → slice_index (xs ++ ys) k ≡ slice_index xs k
earlier xs ys k h = get_or-append xs ys 0 k h

-- the lists of the dependencies of the units below `u`, with those of unit `u` after them, are the lists for the units below `u +
-- 1`
pub linked : (tree : Tree) (u : ℕ) (starts links units nextStarts nextLinks : List ℕ) → LinksBelow tree u starts links → units ≡ dependencies tree u
    → nextLinks ≡ links ++ units → nextStarts ≡ starts ++ length (links ++ units) ∷ [] → LinksBelow tree (u + 1) nextStarts nextLinks
linked tree u starts links units nextStarts nextLinks l e eLinks eStarts =
    let all : ℕ = length (links ++ units) in
    let whole : List ℕ = starts ++ length (links ++ units) ∷ [] in
    let many : length (links ++ units) ≡ length links + length units = length-append links units in
    let places : length (starts ++ length (links ++ units) ∷ []) ≡ u + 1 + 1 = length-append starts (length (links ++ units) ∷ []) ∙ ap (λ k. k + 1) l.places in
    let end : slice_index (starts ++ length (links ++ units) ∷ []) (u + 1) ≡ length (links ++ units) = subst
    (λ k. slice_index (starts ++ length (links ++ units) ∷ []) k ≡ length (links ++ units)) l.places
    (get_or-append_seam starts (length (links ++ units)) [] 0) in
    subst (λ s. LinksBelow tree (u + 1) s nextLinks) (sym eStarts) (subst (λ k. LinksBelow tree (u + 1) whole k) (sym eLinks) (record {
      places = places;
      last = end;
      rises = rises;
      within = within;
      rows = rows;
    }))
  where
    before : (k : ℕ) → k < u + 1 → slice_index (starts ++ length (links ++ units) ∷ []) k ≡ slice_index starts k
    before k h = let p = l.places in earlier starts (length (links ++ units) ∷ []) k (omega arith)

    last_place : slice_index (starts ++ length (links ++ units) ∷ []) (u + 1) ≡ length (links ++ units)
    last_place =
        subst (λ k. slice_index (starts ++ length (links ++ units) ∷ []) k ≡ length (links ++ units)) l.places
        (get_or-append_seam starts (length (links ++ units)) [] 0)

    within : (k : ℕ) → k < u + 1 → slice_index (starts ++ length (links ++ units) ∷ []) (k + 1) ≤ length (links ++ units)
    within k h = elim (cases_lt k u) [
      | inl less ↦ let w = l.within k less in let b = before (k + 1) (omega arith) in let m = length-append links units in omega arith
      | inr last ↦ let same : k ≡ u = omega arith in subst (λ j. slice_index (starts ++ length (links ++ units) ∷ []) (j + 1) ≤ length (links ++ units))
          (sym same) (let p = last_place in omega arith)
    ]

    rises : (k : ℕ) → k < u + 1 → slice_index (starts ++ length (links ++ units) ∷ []) k ≤ slice_index (starts ++ length (links ++ units) ∷ []) (k + 1)
    rises k h = elim (cases_lt k u) [
      | inl less ↦ let r = l.rises k less in let b = before k h in let c = before (k + 1) (omega arith) in omega arith
      | inr last ↦
          let same : k ≡ u = omega arith in
          subst (λ j. slice_index (starts ++ length (links ++ units) ∷ []) j ≤ slice_index (starts ++ length (links ++ units) ∷ []) (j + 1)) (sym same)
          (let b = before u (omega arith) in let p = last_place in let q = l.last in let m = length-append links units in omega arith)
    ]

    rows : (k : ℕ) → k < u + 1
        → take (slice_index (starts ++ length (links ++ units) ∷ []) (k + 1) - slice_index (starts ++ length (links ++ units) ∷ []) k)
        (drop (slice_index (starts ++ length (links ++ units) ∷ []) k) (links ++ units)) ≡ dependencies tree k
    rows k h = elim (cases_lt k u) [
      | inl less ↦ old_row k less (before k h) (before (k + 1) (omega arith))
      | inr last ↦ let same : k ≡ u = omega arith in subst (λ j. take (slice_index (starts ++ length (links ++ units) ∷ []) (j + 1) - slice_index
          (starts ++ length (links ++ units) ∷ []) j) (drop (slice_index (starts ++ length (links ++ units) ∷ []) j) (links ++ units)) ≡ dependencies tree j)
          (sym same) new_row
    ]
      where
        old_row : (k : ℕ) → k < u → slice_index (starts ++ length (links ++ units) ∷ []) k ≡ slice_index starts k
            → slice_index (starts ++ length (links ++ units) ∷ []) (k + 1) ≡ slice_index starts (k + 1)
            → take (slice_index (starts ++ length (links ++ units) ∷ []) (k + 1) - slice_index (starts ++ length (links ++ units) ∷ []) k)
            (drop (slice_index (starts ++ length (links ++ units) ∷ []) k) (links ++ units)) ≡ dependencies tree k
        old_row k less b c =
            let r = l.rises k less in
            let w = l.within k less in
            let room : slice_index starts (k + 1) - slice_index starts k ≤ length (drop (slice_index starts k) links) = omega
            (arith, length-drop (slice_index starts k) links) in
            ap (λ i. take (i - slice_index (starts ++ length (links ++ units) ∷ []) k)
            (drop (slice_index (starts ++ length (links ++ units) ∷ []) k) (links ++ units))) c
            ∙ ap (λ i. take (slice_index starts (k + 1) - i) (drop i (links ++ units))) b
            ∙ ap (take (slice_index starts (k + 1) - slice_index starts k)) (drop-append-le (slice_index starts k) links units (omega arith))
            ∙ take-append-le (slice_index starts (k + 1) - slice_index starts k) (drop (slice_index starts k) links) units room
            ∙ l.rows k less

        new_row : take (slice_index (starts ++ length (links ++ units) ∷ []) (u + 1) - slice_index (starts ++ length (links ++ units) ∷ []) u)
            (drop (slice_index (starts ++ length (links ++ units) ∷ []) u) (links ++ units)) ≡ dependencies tree u
        new_row =
            let b : slice_index (starts ++ length (links ++ units) ∷ []) u ≡ length links = before u (omega arith) ∙ l.last in
            let size : length (links ++ units) - length links ≡ length units = omega (arith, length-append links units) in
            ap (λ i. take (i - slice_index (starts ++ length (links ++ units) ∷ []) u)
            (drop (slice_index (starts ++ length (links ++ units) ∷ []) u) (links ++ units))) last_place
            ∙ ap (λ i. take (length (links ++ units) - i) (drop i (links ++ units))) b
            ∙ ap (λ i. take i (drop (length links) (links ++ units))) size
            ∙ ap (take (length units)) (drop-append_seam links units)
            ∙ take-length units
            ∙ e

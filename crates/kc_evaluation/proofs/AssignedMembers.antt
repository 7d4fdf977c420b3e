-- Lists of members to which something is assigned.
use Rattle.std.proofs.Common.{zero, suc, ◌≤◌, Bool, ◌&&◌, ◌||◌, get_or, Result, Ok, Err}
use Rattle.std.specs.Prelude.{find, is_ok, MatchResult}
use Rattle.kc_evaluation.proofs.Common.{◌≡◌, ℕ, ◌+◌, ◌<◌, inl, inr, true, ◌==◌, cond, List, [], ◌∷◌, length, map, Some, None, drop, refl, sym, ap, ◌∙◌, arith, list_any, cases_lt, false_from_ne_true, eqb-true, list_any_none, MemberLine, is_listed, last_y}
use Rattle.std.specs.List.Sorted.{IsNonDecreasing, IsBinarySearchResult, IsPermutation}
use Rattle.std.specs.Option.{option_or}
use Rattle.std.specs.Ordering.{nat_cmp}
use Rattle.std.proofs.lemmas.Bool.{eq-eqb}
use Rattle.std.proofs.lemmas.List.Sorted.{searched, list_any-IsPermutation}
use Rattle.std.proofs.lemmas.List.{at_drop_more, get_or_default}
use Rattle.std.proofs.lemmas.List.Folds.{list_any_at}

-- what is last in the rest of a list is last in the whole
last_kept : (seen : ℕ → Bool) (lines : List MemberLine) (i s : ℕ) → last_y seen (drop i lines) ≡ Some s → last_y seen lines ≡ Some s
last_kept seen [] zero s e = e
last_kept seen [] (suc i) s e = e
last_kept seen (l ∷ lines) zero s e = e
last_kept seen (l ∷ lines) (suc i) s e = ap (λ o. option_or o (cond (l.is_y && seen l.member) (Some l.member) None)) (last_kept seen lines i s e)

-- the last listed member with `y` that passes a test, where none after it does
pub last_at : (seen : ℕ → Bool) (lines : List MemberLine) (i : ℕ) (l : MemberLine) → i < length lines → l ≡ get_or lines i l
    → (l.is_y && seen l.member) ≡ true → last_y seen (drop (i + 1) lines) ≡ None → last_y seen lines ≡ Some l.member
last_at seen lines i l within is passes none =
    last_kept seen lines i l.member
    (at_drop_more (last_y seen) lines i l within ∙ ap (λ k. last_y seen (k ∷ drop (i + 1) lines)) (sym is)
    ∙ ap (λ o. option_or o (cond (l.is_y && seen l.member) (Some l.member) None)) none ∙ ap (λ b. cond b (Some l.member) None) passes)

-- a member is among the numbers of the listed ones if it is listed
pub numbers_listed : (lines : List MemberLine) (s : ℕ) → list_any (λ m. m == s) (map (λ (l : MemberLine). l.member) lines) ≡ is_listed lines s
numbers_listed [] s = refl
numbers_listed (l ∷ lines) s = ap (λ t. (l.member == s) || t) (numbers_listed lines s)

-- the same, of a list of these numbers in another order
pub sorted_listed : (lines : List MemberLine) (found numbers : List ℕ) (s : ℕ) → found ≡ map (λ (l : MemberLine). l.member) lines → IsPermutation found numbers
    → list_any (λ m. m == s) numbers ≡ is_listed lines s
sorted_listed lines found numbers s is order =
    sym (list_any-IsPermutation (λ m. m == s) found numbers order) ∙ ap (list_any (λ m. m == s)) is ∙ numbers_listed lines s

-- tests that agree find the same
pub found_same : (p q : ℕ → Bool) → ((s : ℕ) → p s ≡ q s) → (xs : List ℕ) → find p xs ≡ find q xs
found_same p q same [] = refl
found_same p q same (x ∷ xs) = ap (λ b. cond b (Some x) (find p xs)) (same x) ∙ ap (λ o. cond (q x) (Some x) o) (found_same p q same xs)

-- what a binary search says of ascending numbers is whether they have a number
pub has_is : (xs : List ℕ) (s : ℕ) (r : Result ℕ ℕ) → IsNonDecreasing xs → IsBinarySearchResult (λ y. nat_cmp y s) xs r → is_ok r ≡ list_any (λ m. m == s) xs
has_is xs s r up found = go r (searched xs s r found (λ i j below within. up i j 0 below within)) where
  go : (r : Result ℕ ℕ)
      → MatchResult r (λ i. (i < length xs) × (get_or xs i 0 ≡ s)) (λ i. (i ≤ length xs) × ((k : ℕ) → k < i → get_or xs k 0 < s) × ((k : ℕ) → i ≤ k → k < length xs → s < get_or xs k 0))
      → is_ok r ≡ list_any (λ m. m == s) xs
  go (Ok i) at = sym (list_any_at (λ m. m == s) xs i 0 at.0 (eq-eqb (get_or xs i 0) s at.1))
  go (Err i) at = sym (list_any_none (λ m. m == s) xs (λ k d inside. false_from_ne_true (get_or xs k d == s) (λ q. away k d inside (eqb-true (get_or xs k d) s q)))) where
    away : (k d : ℕ) → k < length xs → get_or xs k d ≡ s → ⊥
    away k d inside same =
        let again : get_or xs k 0 ≡ s = get_or_default xs k 0 d inside ∙ same in
        elim (cases_lt k i) [
          | inl before ↦ let below = at.1 k before in absurd (omega arith)
          | inr after ↦ let above = at.2 k (omega arith) inside in absurd (omega arith)
        ]

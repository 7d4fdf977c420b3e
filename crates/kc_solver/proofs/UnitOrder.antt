-- Units in ascending order.
use Rattle.kc_solver.proofs.Common.{◌≡◌, ◌↔◌, inl, inr, ℕ, List, Some, sym, ◌∙◌, ap, slice_get, eqb, Contains, IsStrictlyIncreasing, cases_eq, eqb-true, ne_eqb, Contains-from_any, IsEliminated}
use Rattle.std.specs.List.Sorted.{IsPermutation, IsSorted}
use Rattle.std.specs.Ordering.{nat_cmp}
use Rattle.std.specs.Cmp.{nat_eq_equiv}
use Rattle.std.proofs.lemmas.List.Sorted.{IsNonDecreasingBy-from_sort, list_any-IsPermutation}
use Rattle.std.proofs.lemmas.Map.Keys.{IsDistinct-IsPermutation, IsStrictlyIncreasing-from_distinct}
use Rattle.std.proofs.lemmas.Map.Views.{list_any-from_Contains}
use Rattle.kc_solver.proofs.Lists.{distinct_from_once, get_from_Contains, Contains_from_get}

flips : (x y : ℕ) → eqb x y ≡ eqb y x
flips x y = elim (cases_eq x y) [
  | inl same ↦ ap (λ z. eqb z y) same ∙ ap (λ z. eqb y z) (sym same)
  | inr other ↦ ne_eqb x y other ∙ sym (ne_eqb y x (λ e. other (sym e)))
]

-- a list without repeats, once sorted, ascends strictly and has the same elements
pub sorted_once : (units sorted : List ℕ) → IsPermutation units sorted → IsSorted nat_cmp sorted
    → ((j k u : ℕ) → slice_get units j ≡ Some u → slice_get units k ≡ Some u → j ≡ k)
    → IsStrictlyIncreasing sorted × ((u : ℕ) → Contains sorted u ↔ IsEliminated units u)
sorted_once units sorted moved rises once = (
  IsStrictlyIncreasing-from_distinct sorted (IsNonDecreasingBy-from_sort (λ x. x) sorted rises)
      (IsDistinct-IsPermutation eqb flips units sorted moved (distinct_from_once units once)),
  λ u.
      let alike = list_any-IsPermutation (eqb u) units sorted moved in (
        (λ has. let there = Contains-from_any {eq = eqb} eqb-true u units (alike ∙ list_any-from_Contains {eq = eqb} nat_eq_equiv u sorted has) in
            (there.0, get_from_Contains units u there)),
        (λ there. Contains-from_any {eq = eqb} eqb-true u sorted (sym alike
            ∙ list_any-from_Contains {eq = eqb} nat_eq_equiv u units (Contains_from_get units there.0 u there.1))),
      ),
)

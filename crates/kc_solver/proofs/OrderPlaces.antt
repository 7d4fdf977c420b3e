-- The places of the units in an order.
use Rattle.kc_solver.proofs.Common.{◌≡◌, inl, inr, ℕ, zero, suc, ◌+◌, ◌<◌, ◌≤◌, List, [], ◌∷◌, ◌++◌, length, length-append, set, refl, sym, ◌∙◌, ap, arith, Some, slice_get, cases_eq, none-some, slice_get_within, IsOrder}
use Rattle.kc_solver.proofs.Lists.{get-set_same, get-set_other}
use Rattle.kc_solver.proofs.Eliminations.{length-once, push_cases}

-- if the units before place i of the order have their places listed, those up to place i do once the one at i is written
pub places_more : (size : ℕ) (dependencies : ℕ → List ℕ) (order places : List ℕ) (i u : ℕ) → IsOrder size dependencies order → length places ≡ size
    → slice_get order i ≡ Some u
    → ((k w : ℕ) → k < i → slice_get order k ≡ Some w → slice_get places w ≡ Some k) → (k w : ℕ) → k < i + 1 → slice_get order k ≡ Some w
    → slice_get (set places u i) w ≡ Some k
places_more size dependencies order places i u ordered one_each at below k w h e =
    let inside = ordered.units i u at in
    elim (cases_eq w u) [
      | inl same ↦
          let place = ordered.once k i u (e ∙ ap Some same) at in
          ap (slice_get (set places u i)) same ∙ get-set_same places u i (omega (arith, one_each)) ∙ ap Some (sym place)
      | inr other ↦
          let earlier : k < i = elim (cases_eq k i) [
            | inl here ↦ let both : Some u ≡ Some w = sym at ∙ ap (slice_get order) (sym here)
                ∙ e in let same : w ≡ u = cc in absurd (other same)
            | inr not_here ↦ omega arith
          ] in
          get-set_other places u w i other ∙ below k w earlier e
    ]

-- an order has at most as many elements as there are units
pub short_order : (size : ℕ) (dependencies : ℕ → List ℕ) (order : List ℕ) → IsOrder size dependencies order → length order ≤ size
short_order size dependencies order ordered = length-once size order ordered.units ordered.once

-- there is a list of the places of the first n units in the order
listed_places : (size : ℕ) (dependencies : ℕ → List ℕ) (order : List ℕ) → IsOrder size dependencies order → (n : ℕ) → n ≤ size
    → (places : List ℕ) × (length places ≡ n) × ((u k : ℕ) → slice_get places u ≡ Some k → slice_get order k ≡ Some u)
listed_places size dependencies order ordered zero h = ([], refl, λ u k e. absurd (none-some k e))
listed_places size dependencies order ordered (suc n) h =
    let before = listed_places size dependencies order ordered n (omega (arith, h)) in
    let place = ordered.each n (omega (arith, h)) in (
      before.0 ++ place.0 ∷ [],
      omega (arith, length-append before.0 (place.0 ∷ []), before.1),
      λ u k e. elim (push_cases before.0 place.0 u k e) [
        | inl earlier ↦ before.2 u k earlier
        | inr last ↦ ap (slice_get order) last.1 ∙ place.1 ∙ ap Some (sym (last.0 ∙ before.1))
      ],
    )

-- an order has exactly as many elements as there are units
pub order_length : (size : ℕ) (dependencies : ℕ → List ℕ) (order : List ℕ) → IsOrder size dependencies order → length order ≡ size
order_length size dependencies order ordered =
    let all = listed_places size dependencies order ordered size (omega arith) in
    let enough : length all.0 ≤ length order = length-once (length order) all.0 (λ u k e. slice_get_within order k u (all.2 u k e))
    (λ j k p first last. let same : Some j ≡ Some k = sym (all.2 j p first) ∙ all.2 k p last in let is : j ≡ k = cc in is) in
    omega (arith, all.1, enough, short_order size dependencies order ordered)

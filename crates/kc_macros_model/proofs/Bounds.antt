-- The bytes of values and variables.
use Rattle.kc_macros_model.proofs.Common.{◌≡◌, ℕ, zero, suc, ◌+◌, ◌≤◌, Bool, true, false, List, [], ◌∷◌, ◌++◌, Some, None, refl, subst, arith, length-append, nat_le, leb-true, LineTooLong, MAX_TEXT_BYTES, Place, Program, returns, ◌>>=◌, Item, items, Value, value_length, joined_values, Variable}
use Rattle.kc_macros_model.proofs.Common.{simple, recursive, fault, spends, item_value, unless_too_long, item_values, expanded, SetsNow, Appends, Sets, stored, World, returned, ending_in}
use Rattle.kc_macros_model.specs.Expansion.{text_value}
use Rattle.kc_macros_model.specs.Assignments.{stored_simple}
use Rattle.kc_macros_model.specs.ExpansionLaws.{ValuesAreBounded, stored_length, VariablesAreBounded}
use Rattle.kc_macros_model.proofs.ExpansionByRules.{split_return, same_return}

-- a value after another is as long as both, as far as they are known
joined_length : (n : ℕ) (v u : Value) → n + value_length v ≤ MAX_TEXT_BYTES → n + value_length v + value_length u ≤ MAX_TEXT_BYTES
    → n + value_length (joined_values v u) ≤ MAX_TEXT_BYTES
joined_length n None u h k = h
joined_length n (Some s) None h k = omega (arith, h)
joined_length n (Some s) (Some t) h k = omega (arith, k, length-append s t)

module _ (w : World) (at : Place) where
  -- a program that was not too long goes on
  not_too_long : {A : Type 0} (n : ℕ) (p : Program A) (x : A) → ending_in w (unless_too_long at n p) ≡ returned x
      → (n ≤ MAX_TEXT_BYTES) × (ending_in w p ≡ returned x)
  not_too_long {A = A} n p x e = by_test (nat_le n MAX_TEXT_BYTES) refl e
    where
      by_test : (c : Bool) → nat_le n MAX_TEXT_BYTES ≡ c → ending_in w (elim c as (λ z. Program A) [ true ↦ p | false ↦ fault at LineTooLong [] ]) ≡ returned x
          → (n ≤ MAX_TEXT_BYTES) × (ending_in w p ≡ returned x)
      by_test true h e = (leb-true n MAX_TEXT_BYTES h, e)
      by_test false h e = absurd (let z : ⊥ = cc in z)

  items_bounded : (f : Item → Program Value) (n : ℕ) (is : List Item) (v : Value) → n ≤ MAX_TEXT_BYTES → ending_in w (item_values at f n is) ≡ returned v
      → n + value_length v ≤ MAX_TEXT_BYTES
  items_bounded f n [] v h e = subst (λ u. n + value_length u ≤ MAX_TEXT_BYTES) (same_return (Some []) v e) (omega (arith, h))
  items_bounded f n (i ∷ is) v h e =
      let (u, eu, e2) = split_return w (f i) (λ u. unless_too_long at (n + value_length u)
      (item_values at f (n + value_length u) is >>= λ rest. returns (joined_values u rest))) v e in
      let (short, e3) = not_too_long (n + value_length u) (item_values at f (n + value_length u) is >>= λ rest. returns (joined_values u rest)) v e2 in
      let (x, ex, e4) = split_return w (item_values at f (n + value_length u) is) (λ rest. returns (joined_values u rest)) v e3 in
      subst (λ z. n + value_length z ≤ MAX_TEXT_BYTES) (same_return (joined_values u x) v e4)
      (joined_length n u x short (items_bounded f (n + value_length u) is x short ex))

  stored_bounded : (v : Value) (x y : Variable) → stored_length x ≡ value_length v → ending_in w (stored at v x) ≡ returned y → stored_length y ≤ MAX_TEXT_BYTES
  stored_bounded v x y same e =
      let (short, e2) = not_too_long (value_length v) (spends at (value_length v) (returns x)) y e in
      let bound : stored_length x ≤ MAX_TEXT_BYTES = omega (arith, short, same) in
      subst (λ z. stored_length z ≤ MAX_TEXT_BYTES) (same_return x y e2) bound

pub values_are_bounded : ValuesAreBounded
values_are_bounded w at b zero open_names args text v e = absurd (let z : ⊥ = cc in z)
values_are_bounded w at b (suc more) open_names args text v e =
    let f = item_value (expanded more at b) at b open_names args in
    let (u, eu, e2) = split_return w (item_values at f 0 (items false 0 text)) (λ u. spends at (value_length u) (returns u)) v e in
    let bound : 0 + value_length u ≤ MAX_TEXT_BYTES = items_bounded w at f 0 (items false 0 text) u (omega arith) eu in
    let short : value_length u ≤ MAX_TEXT_BYTES = omega (arith, bound) in
    subst (λ z. value_length z ≤ MAX_TEXT_BYTES) (same_return u v e2) short

pub variables_are_bounded : VariablesAreBounded
variables_are_bounded w at b SetsNow text before x e =
    let (v, ev, e2) = split_return w (text_value at b text) (stored_simple at) x e in stored_bounded w at v (simple v) x refl e2
variables_are_bounded w at b Sets text before x e = stored_bounded w at (Some text) (recursive text) x refl e
variables_are_bounded w at b Appends text None x e = stored_bounded w at (Some text) (recursive text) x refl e
variables_are_bounded w at b Appends text (Some (recursive t)) x e = stored_bounded w at (Some (t ++ 32 ∷ text)) (recursive (t ++ 32 ∷ text)) x refl e
variables_are_bounded w at b Appends text (Some (simple v)) x e =
    let (u, eu, e2) = split_return w (text_value at b text) (λ m. stored_simple at (joined_values v (joined_values (Some (32 ∷ [])) m))) x e in
    stored_bounded w at (joined_values v (joined_values (Some (32 ∷ [])) u)) (simple (joined_values v (joined_values (Some (32 ∷ [])) u))) x refl e2

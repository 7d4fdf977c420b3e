-- The expansion of a text returns only values that the rules of expansion give.
use Rattle.kc_macros_model.proofs.Common.{◌≡◌, ℕ, zero, suc, ◌+◌, ◌≤◌, Bool, true, false, List, [], ◌∷◌, ◌++◌, length, Option, Some, None, refl, sym, ◌∙◌, subst, nat_le, leb-true, Arguments, Recursion, LineTooLong, MAX_TEXT_BYTES, MAX_PIECES, Place, Program, returns, fails, stops, does, ◌>>=◌}
use Rattle.kc_macros_model.proofs.Common.{pieces, Item, items, Value, value_length, joined_values, Variable, simple, recursive, Bindings, argument_of, fault, spends, is_recursion, Expander, named_value, piece_values, call_value, reference_value, item_value, unless_too_long, item_values, expanded}
use Rattle.kc_macros_model.proofs.Common.{World, reply, Ending, returned, failed, stopped, ending_in, Expands, done, Refers, parameter, call, unknown_name, ExpandEach, no_pieces, piece, Means, simple_variable, recursive_variable, unbound}
use Rattle.kc_macros_model.specs.ExpansionRules.{byte as byte_rule, reference as reference_rule}
use Rattle.kc_macros_model.specs.ExpansionLaws.{ExpansionKeepsTheRules}
use Rattle.kc_macros_model.proofs.TextItems.{IsRow, no_items, then_byte, then_reference, then_unterminated, is_row}

-- the end of two programs in sequence: that of the second if the first returned a value, else that of the first
abbrev pub then_end : {A B : Type 0} → Ending A → (A → Ending B) → Ending B
then_end (returned x) rest = rest x
then_end (failed f) rest = failed f
then_end stopped rest = stopped

pub end_of_both : {A B : Type 0} (w : World) (p : Program A) (f : A → Program B) → ending_in w (p >>= f) ≡ then_end (ending_in w p) (λ x. ending_in w (f x))
end_of_both w (returns x) f = refl
end_of_both w (fails g) f = refl
end_of_both w stops f = refl
end_of_both w (does e k) f = end_of_both w (k (reply w e)) f

returned_by_both : {A B : Type 0} (end : Ending A) (rest : A → Ending B) (y : B) → then_end end rest ≡ returned y
    → (x : A) × (end ≡ returned x) × (rest x ≡ returned y)
returned_by_both (returned x) rest y e = (x, refl, e)
returned_by_both (failed g) rest y e = absurd (let z : ⊥ = cc in z)
returned_by_both stopped rest y e = absurd (let z : ⊥ = cc in z)

-- where two programs in sequence return a value, the first returned a value, with which the second returns that result
pub split_return : {A B : Type 0} (w : World) (p : Program A) (f : A → Program B) (y : B) → ending_in w (p >>= f) ≡ returned y
    → (x : A) × (ending_in w p ≡ returned x) × (ending_in w (f x) ≡ returned y)
split_return w p f y e = returned_by_both (ending_in w p) (λ x. ending_in w (f x)) y (sym (end_of_both w p f) ∙ e)

pub same_return : {A : Type 0} (x y : A) → returned x ≡ returned y → x ≡ y
same_return x y e = cc

module _ (w : World) (at : Place) (b : Bindings) where
  -- a way to expand that keeps the rules
  abbrev KeepsTheRules : Expander → Type 0
  KeepsTheRules sub = (open_names : List (List ℕ)) (args : List Value) (s : List ℕ) (v : Value) → ending_in w (sub open_names args s) ≡ returned v
      → Expands w at b args s v

  module _ (sub : Expander) (keeps : KeepsTheRules sub) (open_names : List (List ℕ)) (args : List Value) where
    pieces_keep : (ps : List (List ℕ)) (vs : List Value) → ending_in w (piece_values (sub open_names args) ps) ≡ returned vs → ExpandEach w at b args ps vs
    pieces_keep [] vs e = subst (λ x. ExpandEach w at b args [] x) (same_return [] vs e) no_pieces
    pieces_keep (p ∷ ps) vs e =
        let (v, ev, e2) = split_return w (sub open_names args p) (λ v. piece_values (sub open_names args) ps >>= λ us. returns (v ∷ us)) vs e in
        let (us, eu, e3) = split_return w (piece_values (sub open_names args) ps) (λ us. returns (v ∷ us)) vs e2 in
        subst (λ x. ExpandEach w at b args (p ∷ ps) x) (same_return (v ∷ us) vs e3) (piece (keeps open_names args p v ev) (pieces_keep ps us eu))

    name_keeps : (name : List ℕ) (given : List Value) (x : Option Variable) (u : Value) → b name ≡ x
        → ending_in w (named_value sub at open_names name given x) ≡ returned u → Means w at b given name u
    name_keeps name given None u x e = unbound x e
    name_keeps name given (Some (simple v)) u x e = subst (λ z. Means w at b given name z) (same_return v u e) (simple_variable x)
    name_keeps name given (Some (recursive s)) u x e = by_test (is_recursion open_names name given) e
      where
        by_test : (c : Bool) → ending_in w (elim c as (λ z. Program Value) [ true ↦ fault at Recursion name | false ↦ sub (name ∷ open_names) given s ])
            ≡ returned u → Means w at b given name u
        by_test true e = absurd (let z : ⊥ = cc in z)
        by_test false e = recursive_variable x (keeps (name ∷ open_names) given s u e)

    call_keeps : (inside : List ℕ) (vs : List Value) (u : Value) → argument_of args inside ≡ None → length (pieces 0 inside) ≤ MAX_PIECES
        → ExpandEach w at b args (pieces 0 inside) vs → ending_in w (call_value sub at b open_names vs) ≡ returned u → Refers w at b args inside u
    call_keeps inside [] u a few each e = absurd (let z : ⊥ = cc in z)
    call_keeps inside (None ∷ given) u a few each e = subst (λ x. Refers w at b args inside x) (same_return None u e) (unknown_name a few each)
    call_keeps inside (Some name ∷ given) u a few each e = call a few each (name_keeps name given (b name) u refl e)

    reference_keeps : (inside : List ℕ) (a : Option Value) (u : Value) → argument_of args inside ≡ a
        → ending_in w (reference_value sub at b open_names args inside a) ≡ returned u → Refers w at b args inside u
    reference_keeps inside (Some v) u a e = subst (λ x. Refers w at b args inside x) (same_return v u e) (parameter a)
    reference_keeps inside None u a e = by_test (nat_le (length (pieces 0 inside)) MAX_PIECES) refl e
      where
        by_test : (c : Bool) → nat_le (length (pieces 0 inside)) MAX_PIECES ≡ c
            → ending_in w (elim c as (λ z. Program Value) [
              | true ↦ piece_values (sub open_names args) (pieces 0 inside) >>= call_value sub at b open_names
              | false ↦ fault at Arguments []
            ]) ≡ returned u
            → Refers w at b args inside u
        by_test false few e = absurd (let z : ⊥ = cc in z)
        by_test true few e =
            let (vs, ev, e2) = split_return w (piece_values (sub open_names args) (pieces 0 inside)) (call_value sub at b open_names) u e in
            call_keeps inside vs u a (leb-true (length (pieces 0 inside)) MAX_PIECES few) (pieces_keep (pieces 0 inside) vs ev) e2

    abbrev values : ℕ → List Item → Program Value
    values n is = item_values at (item_value sub at b open_names args) n is

    -- a value in front of those of the other items
    values_split : (n m : ℕ) (u v : Value) (is : List Item) → ending_in w (unless_too_long at m (values m is >>= λ rest. returns (joined_values u rest)))
        ≡ returned v
        → (x : Value) × (ending_in w (values m is) ≡ returned x) × (joined_values u x ≡ v)
    values_split n m u v is e = by_test (nat_le m MAX_TEXT_BYTES) e
      where
        by_test : (c : Bool) → ending_in w (elim c as (λ z. Program Value) [
          | true ↦ values m is >>= λ rest. returns (joined_values u rest)
          | false ↦ fault at LineTooLong []
        ]) ≡ returned v
            → (x : Value) × (ending_in w (values m is) ≡ returned x) × (joined_values u x ≡ v)
        by_test false e = absurd (let z : ⊥ = cc in z)
        by_test true e =
            let (x, ex, e2) = split_return w (values m is) (λ rest. returns (joined_values u rest)) v e in (x, ex, same_return (joined_values u x) v e2)

    row_keeps : {s : List ℕ} {is : List Item} → IsRow s is → (n : ℕ) (v : Value) → ending_in w (values n is) ≡ returned v → Expands w at b args s v
    row_keeps no_items n v e = subst (λ x. Expands w at b args [] x) (same_return (Some []) v e) done
    row_keeps (then_byte {c = c} {s = s} {is = is} h r) n v e =
        let (x, ex, j) = values_split n (n + 1) (Some (c ∷ [])) v is e in
        subst (λ z. Expands w at b args (c ∷ s) z) j (byte_rule h (row_keeps r (n + 1) x ex))
    row_keeps (then_reference {inside = inside} {s = s} {is = is} h r) n v e =
        let (u, eu, e2) = split_return w (reference_value sub at b open_names args inside (argument_of args inside))
        (λ u. unless_too_long at (n + value_length u) (values (n + value_length u) is >>= λ rest. returns (joined_values u rest))) v e in
        let (x, ex, j) = values_split n (n + value_length u) u v is e2 in
        subst (λ z. Expands w at b args (36 ∷ 40 ∷ (inside ++ 41 ∷ s)) z) j
        (reference_rule h (reference_keeps inside (argument_of args inside) u refl eu) (row_keeps r (n + value_length u) x ex))
    row_keeps then_unterminated n v e = absurd (let z : ⊥ = cc in z)

  text_keeps : (more : ℕ) → KeepsTheRules (expanded more at b)
  text_keeps zero open_names args s v e = absurd (let z : ⊥ = cc in z)
  text_keeps (suc more) open_names args s v e =
      let (u, eu, e2) = split_return w (item_values at (item_value (expanded more at b) at b open_names args) 0 (items false 0 s))
      (λ u. spends at (value_length u) (returns u)) v e in
      subst (λ x. Expands w at b args s x) (same_return u v e2) (row_keeps (expanded more at b) (text_keeps more) open_names args (is_row s) 0 u eu)

pub expansion_keeps_the_rules : ExpansionKeepsTheRules
expansion_keeps_the_rules w at b more open_names args text v e = text_keeps w at b more open_names args text v e

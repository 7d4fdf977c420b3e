-- The expansion of a text returns each value that the rules give, unless it fails at a limit; a text without references stays.
use Rattle.kc_macros_model.proofs.Common.{◌≡◌, ℕ, zero, suc, ◌+◌, ◌≤◌, Bool, true, false, ◌||◌, List, [], ◌∷◌, length, Some, None, refl, sym, ap, ◌∙◌, subst, arith, nat_le, Arguments, Recursion, LineTooLong, MAX_TEXT_BYTES, MAX_PIECES, Place, Program, returns, ◌>>=◌, pieces, Item, byte, reference}
use Rattle.kc_macros_model.proofs.Common.{items, Value, value_length, joined_values, Bindings, argument_of, fault, spends, is_recursion, named_value, piece_values, call_value, reference_value, item_value, unless_too_long, item_values, expanded, World, Ending, ending_in, begins_reference, Expands}
use Rattle.kc_macros_model.proofs.Common.{done, Refers, parameter, call, unknown_name, ExpandEach, no_pieces, piece, Means, simple_variable, recursive_variable, unbound}
use Rattle.std.proofs.lemmas.Bool.{le-leb}
use Rattle.kc_macros_model.specs.ExpansionRules.{byte as byte_rule, reference as reference_rule}
use Rattle.kc_macros_model.specs.ExpansionLaws.{IsValueOrBound, value, bound, RulesAreExpanded, has_reference, PlainTextsStay}
use Rattle.kc_macros_model.proofs.TextItems.{items_of_byte, items_of_reference}
use Rattle.kc_macros_model.proofs.ExpansionByRules.{then_end, end_of_both}

-- what both come to, if the first comes to a value or a bound and the second then too
either_after : {A B : Type 0} (end : Ending A) (rest : A → Ending B) (x : A) (y : B) → IsValueOrBound x end → IsValueOrBound y (rest x)
    → IsValueOrBound y (then_end end rest)
either_after end rest x y value h = h
either_after end rest x y (bound e) h = bound e

both_come : {A B : Type 0} (w : World) (p : Program A) (f : A → Program B) (x : A) (y : B) → IsValueOrBound x (ending_in w p)
    → IsValueOrBound y (ending_in w (f x)) → IsValueOrBound y (ending_in w (p >>= f))
both_come w p f x y h k = subst (λ z. IsValueOrBound y z) (sym (end_of_both w p f)) (either_after (ending_in w p) (λ z. ending_in w (f z)) x y h k)

module _ (w : World) (at : Place) (b : Bindings) where
  abbrev Comes : {A : Type 0} → A → Program A → Type 0
  Comes v p = IsValueOrBound v (ending_in w p)

  unless_long_comes : {A : Type 0} (n : ℕ) (p : Program A) (v : A) → Comes v p → Comes v (unless_too_long at n p)
  unless_long_comes {A = A} n p v h = by_test (nat_le n MAX_TEXT_BYTES)
    where
      by_test : (c : Bool) → Comes v (elim c as (λ z. Program A) [ true ↦ p | false ↦ fault at LineTooLong [] ])
      by_test true = h
      by_test false = bound refl

  -- the items of a text, after any number of bytes and at any depth
  abbrev ItemsCome : List Value → List ℕ → Value → Type 0
  ItemsCome args s v = (more : ℕ) (open_names : List (List ℕ)) (n : ℕ)
      → Comes v (item_values at (item_value (expanded more at b) at b open_names args) n (items false 0 s))

  text_comes : (args : List Value) (s : List ℕ) (v : Value) → ItemsCome args s v → (more : ℕ) (open_names : List (List ℕ))
      → Comes v (expanded more at b open_names args s)
  text_comes args s v h zero open_names = bound refl
  text_comes args s v h (suc more) open_names = both_come w (item_values at (item_value (expanded more at b) at b open_names args) 0 (items false 0 s))
      (λ u. spends at (value_length u) (returns u)) v v (h more open_names 0) value

  next_comes : (f : Item → Program Value) (n : ℕ) (i : Item) (is : List Item) (u v : Value) → Comes u (f i) → ((m : ℕ) → Comes v (item_values at f m is))
      → Comes (joined_values u v) (item_values at f n (i ∷ is))
  next_comes f n i is u v h k =
      both_come w (f i) (λ u. unless_too_long at (n + value_length u) (item_values at f (n + value_length u) is >>= λ rest. returns (joined_values u rest))) u
      (joined_values u v) h
      (unless_long_comes (n + value_length u) (item_values at f (n + value_length u) is >>= λ rest. returns (joined_values u rest)) (joined_values u v)
      (both_come w (item_values at f (n + value_length u) is) (λ rest. returns (joined_values u rest)) v (joined_values u v) (k (n + value_length u)) value))

  module _ (more : ℕ) (open_names : List (List ℕ)) where
    reference_comes : (args : List Value) (inside : List ℕ) (vs : List Value) (u : Value) → argument_of args inside ≡ None
        → length (pieces 0 inside) ≤ MAX_PIECES
        → Comes vs (piece_values (expanded more at b open_names args) (pieces 0 inside)) → Comes u (call_value (expanded more at b) at b open_names vs)
        → Comes u (reference_value (expanded more at b) at b open_names args inside (argument_of args inside))
    reference_comes args inside vs u a few h k =
        subst (λ x. Comes u (reference_value (expanded more at b) at b open_names args inside x)) (sym a)
        (subst (λ c. Comes u (elim c as (λ z. Program Value) [
          | true ↦ piece_values (expanded more at b open_names args) (pieces 0 inside) >>= call_value
              (expanded more at b) at b open_names
          | false ↦ fault at Arguments []
        ])) (sym (le-leb (length (pieces 0 inside)) MAX_PIECES few))
        (both_come w (piece_values (expanded more at b open_names args) (pieces 0 inside)) (call_value (expanded more at b) at b open_names) vs u h k))

    recursive_comes : (name s : List ℕ) (given : List Value) (u : Value) → Comes u (expanded more at b (name ∷ open_names) given s)
        → (c : Bool) → Comes u (elim c as (λ z. Program Value) [ true ↦ fault at Recursion name | false ↦ expanded more at b (name ∷ open_names) given s ])
    recursive_comes name s given u h true = bound refl
    recursive_comes name s given u h false = h

  mutual
    items_come : {args : List Value} {s : List ℕ} {v : Value} → Expands w at b args s v → ItemsCome args s v
    items_come done more open_names n = value
    items_come (byte_rule {args = args} {c = c} {s = s} {v = v} h r) more open_names n =
        subst (λ is. Comes (joined_values (Some (c ∷ [])) v) (item_values at (item_value (expanded more at b) at b open_names args) n is))
        (sym (items_of_byte c s h))
        (next_comes (item_value (expanded more at b) at b open_names args) n (byte c) (items false 0 s) (Some (c ∷ [])) v value
        (λ m. items_come r more open_names m))
    items_come (reference_rule {args = args} {inside = inside} {s = s} {u = u} {v = v} h r rest) more open_names n =
        subst (λ is. Comes (joined_values u v) (item_values at (item_value (expanded more at b) at b open_names args) n is))
        (sym (items_of_reference false inside s h))
        (next_comes (item_value (expanded more at b) at b open_names args) n (reference inside) (items false 0 s) u v (refers_comes r more open_names)
        (λ m. items_come rest more open_names m))

    refers_comes : {args : List Value} {inside : List ℕ} {u : Value} → Refers w at b args inside u → (more : ℕ) (open_names : List (List ℕ))
        → Comes u (reference_value (expanded more at b) at b open_names args inside (argument_of args inside))
    refers_comes (parameter {args = args} {inside = inside} {u = u} a) more open_names =
        subst (λ x. Comes u (reference_value (expanded more at b) at b open_names args inside x)) (sym a) value
    refers_comes (call {args = args} {given = given} {inside = inside} {name = name} {u = u} a few each m) more open_names =
        reference_comes more open_names args inside (Some name ∷ given) u a few (pieces_come each more open_names) (name_comes m more open_names)
    refers_comes (unknown_name {args = args} {given = given} {inside = inside} a few each) more open_names =
        reference_comes more open_names args inside (None ∷ given) None a few (pieces_come each more open_names) value

    pieces_come : {args : List Value} {ps : List (List ℕ)} {vs : List Value} → ExpandEach w at b args ps vs → (more : ℕ) (open_names : List (List ℕ))
        → Comes vs (piece_values (expanded more at b open_names args) ps)
    pieces_come no_pieces more open_names = value
    pieces_come (piece {args = args} {p = p} {v = v} {ps = ps} {vs = vs} h r) more open_names =
        both_come w (expanded more at b open_names args p) (λ v. piece_values (expanded more at b open_names args) ps >>= λ us. returns (v ∷ us)) v (v ∷ vs)
        (text_comes args p v (items_come h) more open_names)
        (both_come w (piece_values (expanded more at b open_names args) ps) (λ us. returns (v ∷ us)) vs (v ∷ vs) (pieces_come r more open_names) value)

    name_comes : {given : List Value} {name : List ℕ} {u : Value} → Means w at b given name u → (more : ℕ) (open_names : List (List ℕ))
        → Comes u (named_value (expanded more at b) at open_names name given (b name))
    name_comes (simple_variable {given = given} {name = name} {u = u} x) more open_names =
        subst (λ y. Comes u (named_value (expanded more at b) at open_names name given y)) (sym x) value
    name_comes (recursive_variable {given = given} {name = name} {s = s} {u = u} x h) more open_names =
        subst (λ y. Comes u (named_value (expanded more at b) at open_names name given y)) (sym x)
        (recursive_comes more open_names name s given u (text_comes given s u (items_come h) more (name ∷ open_names)) (is_recursion open_names name given))
    name_comes (unbound {given = given} {name = name} {u = u} x e) more open_names =
        subst (λ y. Comes u (named_value (expanded more at b) at open_names name given y)) (sym x) (subst (λ r. IsValueOrBound u r) (sym e) value)

pub rules_are_expanded : RulesAreExpanded
rules_are_expanded w at b args text v h more open_names = text_comes w at b args text v (items_come w at b h) more open_names

neither_first : (p q : Bool) → (p || q) ≡ false → p ≡ false
neither_first true q e = absurd (let z : ⊥ = cc in z)
neither_first false q e = refl

neither_second : (p q : Bool) → (p || q) ≡ false → q ≡ false
neither_second true q e = absurd (let z : ⊥ = cc in z)
neither_second false q e = e

module _ (at : Place) (b : Bindings) (more : ℕ) (open_names : List (List ℕ)) (args : List Value) where
  plain_items : (s : List ℕ) (n : ℕ) → has_reference s ≡ false → n + length s ≤ MAX_TEXT_BYTES → item_values at
      (item_value (expanded more at b) at b open_names args) n (items false 0 s) ≡ returns (Some s)
  plain_items [] n e h = refl
  plain_items (c ∷ s) n e h =
      let short : n + 1 ≤ MAX_TEXT_BYTES = omega (arith, h) in
      let rest_short : n + 1 + length s ≤ MAX_TEXT_BYTES = omega (arith, h) in
      let f = item_value (expanded more at b) at b open_names args in
      ap (λ is. item_values at f n is) (items_of_byte c s (neither_first (begins_reference (c ∷ s)) (has_reference s) e))
      ∙ ap (λ t. elim t as (λ z. Program Value) [
        | true ↦ item_values at f (n + 1) (items false 0 s) >>= λ rest. returns (joined_values (Some (c ∷ [])) rest)
        | false ↦ fault at LineTooLong []
      ]) (le-leb (n + 1) MAX_TEXT_BYTES short)
      ∙ ap (λ (p : Program Value). p >>= λ rest. returns (joined_values (Some (c ∷ [])) rest))
      (plain_items s (n + 1) (neither_second (begins_reference (c ∷ s)) (has_reference s) e) rest_short)

pub plain_texts_stay : PlainTextsStay
plain_texts_stay at b more open_names args text e h =
    let short : 0 + length text ≤ MAX_TEXT_BYTES = omega (arith, h) in
    ap (λ (p : Program Value). spends at (length text + 1) (p >>= λ v. spends at (value_length v) (returns v)))
    (plain_items at b more open_names args text 0 e short)

-- One solution in order of dependency, and no other.
use Rattle.kc_solver.proofs.Common.{◌≡◌, ◌≢◌, inl, inr, ℕ, zero, suc, ◌+◌, ◌<◌, ◌≤◌, List, [], length, set, sym, ◌∙◌, ap, arith, length-set, replicate, Option, None, Some, slice_get, IfSome, cases_eq, slice_get_within, length-replicate, IsOrder, user_of, Solves, AgreesOn, KeepsFrame, UniquelySolves}
use Rattle.kc_solver.proofs.Lists.{get-set_same, get-set_other, get-some, same_by_get}

-- the units at the first i places of the order have the values that their rules give from the user values and the values of all
-- units
pub record SolvedBelow {A X : Type 0} (rule : ℕ → Option X → List A → A) (users : List (Option X)) (order : List ℕ) (values : List A) (i : ℕ) : Type 0 where
  pub holds : (k u : ℕ) → k < i → slice_get order k ≡ Some u → slice_get values u ≡ Some (rule u (user_of users u) values)

module _ {A X : Type 0} (size : ℕ) (dependencies : ℕ → List ℕ) (rule : ℕ → Option X → List A → A) (fits : ℕ → X → Type 0)
    (order : List ℕ) (ordered : IsOrder size dependencies order) (frame : KeepsFrame size dependencies rule fits)
    (users : List (Option X)) (fitting : (u : ℕ) → u < size → IfSome (user_of users u) (fits u)) where
  -- two solutions agree on the units at the first places of the order
  same_below : (v w : List A) → Solves size rule users v → Solves size rule users w → (i k u : ℕ) → k < i → slice_get order k ≡ Some u
      → slice_get v u ≡ slice_get w u
  same_below v w a b zero k u h e = absurd (omega arith)
  same_below v w a b (suc i) k u h e =
      let inside = ordered.units k u e in
      let agrees : AgreesOn (dependencies u) v w = λ d has. let before = ordered.after k u d e has in same_below v w a b i before.0 d (omega (arith, before.1))
      before.2 in
      let same : rule u (user_of users u) v ≡ rule u (user_of users u) w = frame.same u (user_of users u) v w inside a.one_each b.one_each (fitting u inside)
      agrees in
      a.holds u inside ∙ ap Some same ∙ sym (b.holds u inside)

  -- two solutions of one assignment are equal
  pub unique : (v w : List A) → Solves size rule users v → Solves size rule users w → v ≡ w
  unique v w a b = same_by_get v w (a.one_each ∙ sym b.one_each)
      (λ u h. let place = ordered.each u (omega (arith, a.one_each)) in
      same_below v w a b (suc place.0) place.0 u (omega arith) place.1)

  -- if the units before place i of the order have the values of their rules, those up to place i do once the one at i is
  -- evaluated
  pub solved_more : (values : List A) (i u : ℕ) → length values ≡ size → slice_get order i ≡ Some u → SolvedBelow rule users order values i
      → SolvedBelow rule users order (set values u (rule u (user_of users u) values)) (i + 1)
  solved_more values i u len at so_far =
      let inside = ordered.units i u at in
      let next = rule u (user_of users u) values in
      let after = set values u next in
      let keeps : (k w : ℕ) → k < i + 1 → slice_get order k ≡ Some w → AgreesOn (dependencies w) values after =
      λ k w below e d has.
      let before = ordered.after k w d e has in
      let other : d ≢ u = λ same. let twice = ordered.once before.0 i d before.2 (at ∙ ap Some (sym same)) in absurd (omega (arith, twice, before.1)) in
      sym (get-set_other values u d next other) in
      let moved : (k w : ℕ) → k < i + 1 → slice_get order k ≡ Some w → rule w (user_of users w) values ≡ rule w (user_of users w) after =
      λ k w below e. frame.same w (user_of users w) values after (ordered.units k w e) len (length-set values u next ∙ len) (fitting w (ordered.units k w e))
      (keeps k w below e) in
      record {
        holds = λ k w below e.
            elim (cases_eq w u) [
              | inl same ↦
                  let value : slice_get after w ≡ Some next = ap (slice_get after) same ∙ get-set_same values u next (omega (arith, len, inside)) in
                  let at_unit : next ≡ rule w (user_of users w) values = ap (λ x. rule x (user_of users x) values) (sym same) in
                  value ∙ ap Some (at_unit ∙ moved k w below e)
              | inr other ↦
                  let earlier : k < i = elim (cases_eq k i) [
                    | inl here ↦ let both : Some u ≡ Some w = sym at ∙ ap (slice_get order) (sym here)
                        ∙ e in let same : w ≡ u = cc in absurd (other same)
                    | inr not_here ↦ omega arith
                  ] in
                  get-set_other values u w next other ∙ so_far.holds k w earlier e ∙ ap Some (moved k w below e)
            ];
      }

  -- if the units at all places of the order have the values of their rules, the values are a solution
  pub solved_all : (values : List A) → length values ≡ size → SolvedBelow rule users order values (length order) → Solves size rule users values
  solved_all values len done = record {
    one_each = len;
    holds = λ u h. let place = ordered.each u h in done.holds place.0 u (slice_get_within order place.0 u place.1) place.1;
  }

  -- the first places of the order can be solved
  solution_below : (i : ℕ) → i ≤ length order → (values : List A) × (length values ≡ size) × SolvedBelow rule users order values i
  solution_below zero h =
      (replicate size (rule zero None []), length-replicate size (rule zero None []), record { holds = λ k u below e. absurd (omega arith) })
  solution_below (suc i) h =
      let before = solution_below i (omega arith) in
      let place = get-some order i (omega arith) in
      let more = solved_more before.0 i place.0 before.1 place.1 before.2 in
      (set before.0 place.0 (rule place.0 (user_of users place.0) before.0), length-set _ _ _ ∙ before.1, (let e : i + 1 ≡ suc i = omega arith in rw e at more))

  -- an assignment has a solution if there is an order of dependency
  pub solution : (values : List A) × Solves size rule users values
  solution = let all = solution_below (length order) (omega arith) in (all.0, solved_all all.0 all.1 all.2)

  -- a solution of an assignment is its one and only one
  pub gives : (v : List A) → Solves size rule users v → UniquelySolves size rule users v
  gives v a = record { solves = a; only = λ w b. unique w v b a }

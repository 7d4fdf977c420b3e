-- Where there is no cycle there is an order: units are eliminated one after another, and where none can be, a walk closes.
use Rattle.kc_solver.proofs.Common.{◌≡◌, ◌⊎◌, inl, inr, ℕ, zero, suc, ◌+◌, ◌<◌, ◌≤◌, Bool, true, false, List, [], ◌∷◌, ◌++◌, length, set, get_or, length-append, refl, sym, ◌∙◌, subst, arith, Some, slice_get, replicate, drop, cases_eq, cases_lt, cases_Bool, false≢true, none-some, slice_get-get_or}
use Rattle.kc_solver.proofs.Common.{length-replicate, get_or-replicate, Contains, IsGraph, IsOrder, IsLeft, IsLeast, IsNamedCycle, IsElimination, FlagsLeft}
use Rattle.kc_solver.specs.Dependencies.{HasNoCycle}
use Rattle.kc_solver.proofs.Lists.{get_from_Contains, Contains_from_get}
use Rattle.kc_solver.proofs.Cycles.{named_is_cycle}
use Rattle.kc_solver.proofs.Eliminations.{eliminates_more, all_eliminated, length-once, nothing_eliminated, flags_left}
use Rattle.kc_solver.proofs.Walks.{Walking, least_left, walked, closed, short}

-- the first unit of a list whose flag is unset
record FirstUnset (flags : List Bool) (units : List ℕ) (k : ℕ) : Type 0 where
  passed : (j d : ℕ) → j < k → slice_get units j ≡ Some d → get_or flags d false ≡ true
  found : (d : ℕ) → slice_get units k ≡ Some d → get_or flags d false ≡ false

first_unset : (flags : List Bool) (units : List ℕ) → (k : ℕ) × (k ≤ length units) × FirstUnset flags units k
first_unset flags [] = (0, omega arith, record { passed = λ j d lt e. absurd (none-some d e); found = λ d e. absurd (none-some d e) })
first_unset flags (u ∷ units) = elim (cases_Bool (get_or flags u false)) [
  | inl is_set ↦
      let rest = first_unset flags units in
      (suc rest.0, omega (arith, rest.1), record { passed = λ j d lt e. passed rest.0 rest.2 is_set j d lt e; found = λ d e. rest.2.found d e })
  | inr unset ↦ (0, omega arith, record { passed = λ j d lt e. absurd (omega (arith, lt)); found = λ d e. let same : u ≡ d = cc in rw (← same) unset })
] where
  passed : (k : ℕ) → FirstUnset flags units k → get_or flags u false ≡ true → (j d : ℕ) → j < suc k → slice_get (u ∷ units) j ≡ Some d
      → get_or flags d false ≡ true
  passed k rest is_set zero d lt e = let same : u ≡ d = cc in rw (← same) is_set
  passed k rest is_set (suc j) d lt e = rest.passed j d (omega (arith, lt)) e

module _ (size : ℕ) (dependencies : ℕ → List ℕ) (graph : IsGraph size dependencies) where
  -- a unit that can be eliminated next
  record IsReady (flags : List Bool) (u : ℕ) : Type 0 where
    inside : u < size
    fresh : get_or flags u false ≡ false
    ready : (d : ℕ) → Contains (dependencies u) d → (d < size) × (get_or flags d false ≡ true)

  -- the unit is eliminated, or it has a dependency that isn't
  abbrev Waits : List Bool → ℕ → Type 0
  Waits flags u = (get_or flags u false ≡ true) ⊎ ((d : ℕ) × Contains (dependencies u) d × (get_or flags d false ≡ false))

  -- a unit whose flag is unset is ready, or it waits
  one_waits : (flags : List Bool) (u : ℕ) → u < size → IsReady flags u ⊎ Waits flags u
  one_waits flags u h = elim (cases_Bool (get_or flags u false)) [
    | inl is_set ↦ inr (inl is_set)
    | inr unset ↦
        let k = first_unset flags (dependencies u) in
        elim (cases_lt k.0 (length (dependencies u))) [
          | inl lt ↦
              let d = get_or (dependencies u) k.0 0 in
              let at = slice_get-get_or (dependencies u) k.0 0 lt in
              inr (inr (d, Contains_from_get (dependencies u) k.0 d at, k.2.found d at))
          | inr past ↦ inl (record {
            inside = h;
            fresh = unset;
            ready = λ d has.
                let at = get_from_Contains (dependencies u) d has in
                (graph.units u d h has, k.2.passed has.0 d (omega (arith, past, has.1)) at);
          })
        ]
  ]

  -- some unit can be eliminated next, or each of the first n waits
  next_ready : (flags : List Bool) (n : ℕ) → n ≤ size → ((u : ℕ) × IsReady flags u) ⊎ ((u : ℕ) → u < n → Waits flags u)
  next_ready flags zero h = inr (λ u lt. absurd (omega (arith, lt)))
  next_ready flags (suc n) h = elim (next_ready flags n (omega (arith, h))) [
    | inl some ↦ inl some
    | inr each ↦ elim (one_waits flags n (omega (arith, h))) [
      | inl ready ↦ inl (n, ready)
      | inr waits ↦ inr (λ u lt. elim (cases_eq u n) [ inl same ↦ subst (Waits flags) (sym same) waits | inr other ↦ each u (omega (arith, lt)) ])
    ]
  ]

  -- all flags are set, or there is a least unit whose flag is unset
  least_unset : (flags : List Bool) (n : ℕ)
      → ((u : ℕ) → u < n → get_or flags u false ≡ true) ⊎ ((u : ℕ) × (u < n) × (get_or flags u false ≡ false) × ((w : ℕ) → w < u → get_or flags w false ≡ true))
  least_unset flags zero = inl (λ u lt. absurd (omega (arith, lt)))
  least_unset flags (suc n) = elim (least_unset flags n) [
    | inr some ↦ inr (some.0, omega (arith, some.1), some.2, some.3)
    | inl all ↦ elim (cases_Bool (get_or flags n false)) [
      | inl is_set ↦ inl (λ u lt. elim (cases_eq u n) [ inl same ↦ rw same is_set | inr other ↦ all u (omega (arith, lt)) ])
      | inr unset ↦ inr (n, omega arith, unset, all)
    ]
  ]

  -- the walk from the least unit left closes
  walk_closes : (flags : List Bool) → FlagsLeft size dependencies flags → (first : ℕ) → IsLeast (IsLeft size dependencies) first
      → (n : ℕ) (walk places : List ℕ) (u : ℕ)
      → Walking size dependencies first walk places u → size < length walk + n → (cycle : List ℕ) × IsNamedCycle size dependencies cycle
  walk_closes flags left first least zero walk places u w h = absurd (omega (arith, h, short size dependencies first walk places u w))
  walk_closes flags left first least (suc n) walk places u w h = elim (cases_eq (get_or places u 0) size) [
    | inl none ↦
        let k = first_unset flags (dependencies u) in
        let follows = (least_left size dependencies flags u k.0 (dependencies u) graph left w.here refl k.2.passed k.2.found).1 in
        let d = get_or (dependencies u) k.0 0 in
        walk_closes flags left first least n (walk ++ u ∷ []) (set places u (length walk)) d
        (walked size dependencies first walk (walk ++ u ∷ []) places u d refl none follows w) (omega (arith, h, length-append walk (u ∷ [])))
    | inr visited ↦ (drop (get_or places u 0) walk, (closed size dependencies first walk places u least visited w).1)
  ]

  -- the walk at its beginning
  at_first : (first : ℕ) → IsLeft size dependencies first → Walking size dependencies first [] (replicate size size) first
  at_first first left = record {
    units = λ k w e. absurd (none-some w e);
    once = λ j k w a b. absurd (none-some w a);
    begins = λ w e. absurd (none-some w e);
    follows = λ k w d a b. absurd (none-some w a);
    starts = λ e. refl;
    next = λ w e. absurd (none-some w e);
    here = left;
    one_each = length-replicate size size;
    visited = λ w h. inl (get_or-replicate size w size 0 h, λ k e. none-some w e);
  }

  -- where a unit is left there is a cycle
  left_closes : (flags : List Bool) → FlagsLeft size dependencies flags → (u : ℕ) → u < size → get_or flags u false ≡ false
      → ((w : ℕ) → w < u → get_or flags w false ≡ true) → (cycle : List ℕ) × IsNamedCycle size dependencies cycle
  left_closes flags left u h unset before =
      let here = (left u h).0 unset in
      walk_closes flags left u (record {
        holds = here;
        least = λ m m_left. elim (cases_lt m u) [
          | inl below ↦ absurd (false≢true (sym ((left m (m_left.1.units m m_left.2)).1 m_left) ∙ before m below))
          | inr from ↦ from
        ];
      }) (suc size) [] (replicate size size) u (at_first u here) (omega arith)

  -- with n units still to be eliminated at most, an order is found
  take_more : (n : ℕ) (eliminated : List ℕ) (flags : List Bool) → IsElimination size dependencies eliminated flags → size < length eliminated + n
      → HasNoCycle size dependencies → (order : List ℕ) × IsOrder size dependencies order
  take_more zero eliminated flags t h acyclic = absurd (omega (arith, h, length-once size eliminated t.units t.once))
  take_more (suc n) eliminated flags t h acyclic = elim (next_ready flags size (omega arith)) [
    | inl some ↦
        let u = some.0 in
        take_more n (eliminated ++ u ∷ []) (set flags u true) (eliminates_more size dependencies eliminated (eliminated ++ u ∷ []) flags u some.1.inside refl
        some.1.fresh some.1.ready t)
        (omega (arith, h, length-append eliminated (u ∷ []))) acyclic
    | inr each ↦ elim (least_unset flags size) [
      | inl all ↦ (eliminated, all_eliminated size dependencies eliminated flags t all)
      | inr some ↦
          let left = flags_left size dependencies eliminated flags graph t
          (λ w lt. elim (each w lt) [ inl is_set ↦ inl ((t.flagged w lt).0 is_set) | inr waits ↦ inr waits ]) in
          let cycle = left_closes flags left some.0 some.1 some.2 some.3 in
          absurd (acyclic cycle.0 (named_is_cycle size dependencies cycle.0 cycle.1))
    ]
  ]

  -- a graph without a cycle has an order
  pub order_of_acyclic : HasNoCycle size dependencies → (order : List ℕ) × IsOrder size dependencies order
  order_of_acyclic = take_more (suc size) [] (replicate size false) (nothing_eliminated size dependencies [] (replicate size false) refl refl) (omega arith)

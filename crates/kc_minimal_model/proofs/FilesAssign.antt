-- Every file that gives the values of a minimal file assigns each of its units, and has at least as many assigning lines.
use Rattle.std.proofs.Common.{is_some, slice_set}
use Rattle.std.specs.Prelude.{eqb}
use Rattle.std.specs.List.{IsDistinct}
use Rattle.kc_minimal_model.proofs.Common.{◌≡◌, ◌⊎◌, ◌||◌, inl, inr, ℕ, zero, suc, ◌+◌, ◌<◌, ◌≤◌, Bool, true, false, cond, IsTrue, List, [], ◌∷◌, Option, Some, None, length, map, filter, refl, sym, ◌∙◌, ap, arith, list_any, range_with_len, AllByRecursion, cases_Bool, cases_eq, false≢true, eqb-true}
use Rattle.kc_minimal_model.proofs.Common.{eq-eqb, or_left, or_right, or_cases, Tree, unit_of, user_of, FitsUsers, IsCutTo, Profile, UnitValue, UserValue, FileFormat, LineMeaning, assigns, assigns_escaped, file_assignment, merged_user, assigned_over, empty_assignment, file_fits, has_line, minimal_symbols}
use Rattle.kc_minimal_model.proofs.Common.{IsOrderedTree, ordered_tree, HasUnitsOfLines, HasValuesOfLines, ReadsTo, length-map, get_or-set_other, symbol_numbers, none_held}
use Rattle.kc_rules_model.specs.declared.values.UserValue.TheVariants.{Text as TextUser}
use Rattle.kc_rules_model.specs.Shapes.{user_fits}
use Rattle.kc_minimal_model.specs.CanonicalText.{AssignsTheLines, FilesAssignTheLines, assigned_units}
use Rattle.std.specs.Cmp.{IsEquivalence}
use Rattle.std.proofs.lemmas.Map.Made.{length-le_from_is_member}
use Rattle.kc_minimal_model.proofs.LineUnits.{different_units}
use Rattle.kc_minimal_model.proofs.NeededUnits.{needs_units, needs_values}

kept_if_some : (x : Option UserValue) → x ≡ cond (is_some x) x None
kept_if_some None = refl
kept_if_some (Some x) = refl

eqb_laws : IsEquivalence eqb
eqb_laws = record {
  refl = λ x. eq-eqb x x refl;
  symm = λ x y. elim (cases_Bool (eqb x y)) [
    | inl equal ↦ let e = eqb-true x y equal in equal ∙ sym (eq-eqb y x (sym e))
    | inr differ ↦ elim (cases_Bool (eqb y x)) [
      | inl equal ↦ let e = eqb-true y x equal in absurd (false≢true (sym differ ∙ eq-eqb x y (sym e)))
      | inr other ↦
          differ ∙ sym other
    ]
  ];
  congr = λ x y z equal. let e = eqb-true x y equal in ap (λ w. eqb w z) e;
}

at_unit : (w : ℕ) (z : UserValue) (held : List (Option UserValue)) (u : ℕ) (meanings : List LineMeaning)
    → (is_some (user_of (slice_set held w (Some z)) u) ≡ true) ⊎ (list_any (eqb u) (assigned_units meanings) ≡ true)
    → (is_some (user_of held u) ≡ true) ⊎ ((eqb u w || list_any (eqb u) (assigned_units meanings)) ≡ true)
at_unit w z held u meanings is = elim is [
  | inl before ↦ elim (cases_eq u w) [
    | inl same ↦ inr (or_left (eqb u w) (list_any (eqb u) (assigned_units meanings)) (eq-eqb u w same))
    | inr other ↦ inl (ap is_some (sym (get_or-set_other held w u (Some z) None other)) ∙ before)
  ]
  | inr later ↦ inr (or_right (eqb u w) (list_any (eqb u) (assigned_units meanings)) later)
]

-- what is assigned after some lines was assigned before, or by one of them
by_a_line : (meanings : List LineMeaning) (held : List (Option UserValue)) (u : ℕ) → is_some (user_of (assigned_over meanings held) u) ≡ true
    → (is_some (user_of held u) ≡ true) ⊎ (list_any (eqb u) (assigned_units meanings) ≡ true)
by_a_line [] held u some = inl some
by_a_line (assigns_escaped w text ∷ meanings) held u some =
    at_unit w (TextUser text) held u meanings (by_a_line meanings (slice_set held w (Some (TextUser text))) u some)
by_a_line (assigns w x ∷ meanings) held u some =
    at_unit w (merged_user x (user_of held w)) held u meanings (by_a_line meanings (slice_set held w (Some (merged_user x (user_of held w)))) u some)
by_a_line (_ ∷ meanings) held u some = by_a_line meanings held u some

-- the values of a function on the numbers that pass a test, where it gives each another one
apart : (p : ℕ → Bool) (f : ℕ → ℕ) (a n x : ℕ) → x < a → p x ≡ true → ((s t : ℕ) → p s ≡ true → p t ≡ true → f s ≡ f t → s ≡ t)
    → AllByRecursion (λ y. eqb (f x) y ≡ false) (map f (filter p (range_with_len a n)))
apart p f a zero x below has one = tt
apart p f a (suc n) x below has one = go (p a) refl (apart p f (a + 1) n x (omega arith) has one) where
  go : (t : Bool) → p a ≡ t → AllByRecursion (λ y. eqb (f x) y ≡ false) (map f (filter p (range_with_len (a + 1) n)))
      → AllByRecursion (λ y. eqb (f x) y ≡ false) (map f (cond t (a ∷ filter p (range_with_len (a + 1) n)) (filter p (range_with_len (a + 1) n))))
  go false e rest = rest
  go true e rest = (
    elim (cases_Bool (eqb (f x) (f a))) [
      | inl equal ↦ (let same = one x a has e (eqb-true (f x) (f a) equal) in absurd (omega (arith, same, below)))
      | inr
          differ ↦ differ
    ],
    rest,
  )

distinct : (p : ℕ → Bool) (f : ℕ → ℕ) (a n : ℕ) → ((s t : ℕ) → p s ≡ true → p t ≡ true → f s ≡ f t → s ≡ t)
    → IsDistinct eqb (map f (filter p (range_with_len a n)))
unfolding IsDistinct
distinct p f a zero one = tt
distinct p f a (suc n) one = go (p a) refl (distinct p f (a + 1) n one) where
  go : (t : Bool) → p a ≡ t → IsDistinct eqb (map f (filter p (range_with_len (a + 1) n)))
      → IsDistinct eqb (map f (cond t (a ∷ filter p (range_with_len (a + 1) n)) (filter p (range_with_len (a + 1) n))))
  go false e rest = rest
  go true e rest = (apart p f (a + 1) n a (omega arith) e one, rest)

-- an element of such a list comes from one that passes the test
comes_from : (p : ℕ → Bool) (f : ℕ → ℕ) (q : ℕ) (xs : List ℕ) → list_any (eqb q) (map f (filter p xs)) ≡ true → (s : ℕ) × (p s ≡ true) × (q ≡ f s)
comes_from p f q [] any = absurd (false≢true any)
comes_from p f q (x ∷ xs) any = go (p x) refl any (comes_from p f q xs) where
  go : (t : Bool) → p x ≡ t → list_any (eqb q) (map f (cond t (x ∷ filter p xs) (filter p xs))) ≡ true
      → (list_any (eqb q) (map f (filter p xs)) ≡ true → (s : ℕ) × (p s ≡ true) × (q ≡ f s)) → (s : ℕ) × (p s ≡ true) × (q ≡ f s)
  go false e any next = next any
  go true e any next =
      elim (or_cases (eqb q (f x)) (list_any (eqb q) (map f (filter p xs))) any) [ inl here ↦ (x, e, eqb-true q (f x) here) | inr later ↦ next later ]

module _ (format : FileFormat) (profile : Profile) (tree : Tree) (settled : IsOrderedTree tree) (bytes : List ℕ) (values : List UnitValue)
    (reads : ReadsTo format profile tree bytes values) where
  fitting : FitsUsers (length tree.units) (λ u x. IsTrue (user_fits tree u x)) (file_assignment tree reads.meanings)
  fitting = file_fits format tree bytes reads.meanings settled.consistent reads.utf8 reads.has_meaning

  held_each : (s : ℕ) → has_line profile tree values s ≡ true → is_some (user_of (file_assignment tree reads.meanings) (unit_of tree s)) ≡ true
  held_each s has =
      let held = file_assignment tree reads.meanings in
      let keeps : ℕ → Bool = λ u. is_some (user_of held u) in
      let cut : IsCutTo (length tree.units) keeps held held = record { one_each = fitting.0; cut = λ u h. kept_if_some (user_of held u) } in
      (needs_units profile tree held values settled fitting reads.gives.solves held keeps cut).0 reads.gives s has

  -- a file that gives the values assigns to the unit of each line of their minimal file
  assigns_each : HasUnitsOfLines profile tree values (λ u. list_any (eqb u) (assigned_units reads.meanings))
  assigns_each s has = elim (by_a_line reads.meanings (empty_assignment tree) (unit_of tree s) (held_each s has)) [
    | inl before ↦ absurd (false≢true (sym (ap is_some (none_held (length tree.units) (unit_of tree s))) ∙ before))
    | inr line ↦ line
  ]

  -- a file that gives the values assigns the members, strings and numbers that the lines of their minimal file assign
  assigns_values : HasValuesOfLines profile tree values (file_assignment tree reads.meanings)
  assigns_values = needs_values profile tree (file_assignment tree reads.meanings) values settled fitting reads.gives.solves

  -- a file that gives the values has at least as many lines that assign as their minimal file has lines
  assigns_as_many : length (minimal_symbols profile tree values) ≤ length (assigned_units reads.meanings)
  assigns_as_many =
      let p = has_line profile tree values in
      let f = unit_of tree in
      let one = different_units profile tree settled.consistent (file_assignment tree reads.meanings) values fitting reads.gives.solves in
      let listed : (q : ℕ) → list_any (eqb q) (map f (filter p (symbol_numbers tree))) ≡ true → list_any (eqb q) (assigned_units reads.meanings) ≡ true =
      λ q any. let s = comes_from p f q (symbol_numbers tree) any in ap (λ u. list_any (eqb u) (assigned_units reads.meanings)) s.2 ∙ assigns_each s.0 s.1 in
      let long = length-le_from_is_member eqb_laws (map f (filter p (symbol_numbers tree))) (assigned_units reads.meanings)
      (distinct p f 0 (length tree.symbols) one) listed in
      let same = length-map (filter p (symbol_numbers tree)) f in
      omega (arith, long, same)

  pub assigns_lines : AssignsTheLines profile tree values (length (minimal_symbols profile tree values)) reads.meanings
  assigns_lines = record { each = assigns_each; each_value = assigns_values; as_many = assigns_as_many }

pub files_assign : FilesAssignTheLines
files_assign format profile tree file values settled reads = assigns_lines format profile tree (ordered_tree tree settled) file values reads

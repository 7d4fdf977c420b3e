-- The members of a choice are the items under its number.
use Rattle.kc_checks.proofs.Common.{◌≡◌, ℕ, Bool, true, false, ◌&&◌, cond, List, [], ◌∷◌, ◌++◌, filter, Option, Some, None, refl, ap, sym, ◌∙◌, slice_get, filter_map, flat_map, option_to_list, option_and_then, cons_option, eqb-true, eq-eqb, index_of_name, defined_name, GroupInContext, Contents}
use Rattle.kc_checks.proofs.Common.{begins_symbol, choice_number, is_member_of, member_names, number-get, enclosing_choice, own_choice, member_in, members_at, member_key, member_keys_at, ◌==◌}
use Rattle.kc_tree_model.specs.Contents.{own_member_names}
use Rattle.kc_tree.specs.between.GroupedItems.{items_of}
use Rattle.kc_tree.proofs.GroupingLaw.{grouped_is}

nothing_either : (b : Bool) (xs : List ℕ) → xs ≡ [] → cond b xs [] ≡ []
nothing_either true xs e = e
nothing_either false xs e = refl

nothing_false : (b : Bool) (xs : List ℕ) → b ≡ false → cond b xs [] ≡ []
nothing_false true xs e = cc
nothing_false false xs e = refl

-- the list of some of a list is the lists of those
some_of : {A : Type 0} (b : Bool) (f : A → List ℕ) (x : A) (rest : List A) → flat_map f (cond b (x ∷ rest) rest) ≡ cond b (f x) [] ++ flat_map f rest
some_of true f x rest = refl
some_of false f x rest = refl

module _ (c : Contents) (k g : ℕ) (number : choice_number c g ≡ Some k) where
  away : (n : ℕ) → choice_number c n ≡ None → (n == g) ≡ false
  away n e = by_same (n == g) refl
    where
      by_same : (b : Bool) → (n == g) ≡ b → b ≡ false
      by_same true s = let t = ap (choice_number c) (eqb-true n g s) in cc
      by_same false s = refl

  pub same_choice : (n j : ℕ) → choice_number c n ≡ Some j → (j == k) ≡ (n == g)
  same_choice n j e = by_same (j == k) (n == g) refl refl
    where
      by_same : (a b : Bool) → (j == k) ≡ a → (n == g) ≡ b → a ≡ b
      by_same true true s t = refl
      by_same false false s t = refl
      by_same true false s t =
          let q = number-get n c.choices j e in
          let r = number-get g c.choices k number in
          let i : j ≡ k = eqb-true j k s in
          let u : slice_get c.choices k ≡ Some n = ap (slice_get c.choices) (sym i) ∙ q in
          let same : n ≡ g = cc in
          let w = eq-eqb n g same in
          cc
      by_same false true s t =
          let u = ap (choice_number c) (eqb-true n g t) in
          let i : j ≡ k = cc in
          let w = eq-eqb j k i in
          cc

  here_by : (o : Option ℕ) (r : Option ℕ) (x : Option (List ℕ)) → option_and_then (choice_number c) o ≡ r
      → cond (elim r as (λ _. ℕ) [ None ↦ 0 | Some j ↦ j ] == k) (member_in c r x) [] ≡ cond (elim o as (λ _. Bool) [ None ↦ false | Some n ↦ n == g ])
      (option_to_list (option_and_then (λ n. index_of_name n c.names) x)) []
  here_by None None x e = nothing_either (0 == k) [] refl
  here_by None (Some j) x e = cc
  here_by (Some n) None x e =
      nothing_either (0 == k) [] refl ∙ sym (nothing_false (n == g) (option_to_list (option_and_then (λ m. index_of_name m c.names) x)) (away n e))
  here_by (Some n) (Some j) x e = ap (λ b. cond b (option_to_list (option_and_then (λ m. index_of_name m c.names) x)) []) (same_choice n j e)

  named_by : (x : Option (List ℕ)) (xs : List (List ℕ))
      → filter_map (λ n. index_of_name n c.names) (cons_option x xs) ≡ option_to_list (option_and_then (λ n. index_of_name n c.names) x) ++ filter_map
      (λ n. index_of_name n c.names) xs
  named_by None xs = refl
  named_by (Some n) xs = by_place (index_of_name n c.names)
    where
      by_place : (o : Option ℕ) → cons_option o (filter_map (λ m. index_of_name m c.names) xs) ≡ option_to_list o ++ filter_map
          (λ m. index_of_name m c.names) xs
      by_place None = refl
      by_place (Some s) = refl

  some_named : (b : Bool) (p : GroupInContext) (ps : List GroupInContext)
      → filter_map (λ n. index_of_name n c.names) (filter_map (λ (q : GroupInContext). defined_name q.group) (cond b (p ∷ ps) ps))
      ≡ cond b (option_to_list (option_and_then (λ n. index_of_name n c.names) (defined_name p.group))) [] ++ filter_map (λ n. index_of_name n c.names)
      (filter_map (λ (q : GroupInContext). defined_name q.group) ps)
  some_named true p ps = named_by (defined_name p.group) (filter_map (λ (q : GroupInContext). defined_name q.group) ps)
  some_named false p ps = refl

  -- where a function gives a group this choice exactly if a test holds, the members collected by the function are those of the test
  members_by : (f : GroupInContext → Option ℕ) (test : GroupInContext → Bool)
      → ((p : GroupInContext) → cond (member_key f p == k) (members_at f c p) [] ≡ cond (test p)
      (option_to_list (option_and_then (λ n. index_of_name n c.names) (defined_name p.group))) []) → (ps : List GroupInContext)
      → flat_map (members_at f c) (filter (λ p. member_key f p == k) ps) ≡ filter_map (λ n. index_of_name n c.names)
      (filter_map (λ (q : GroupInContext). defined_name q.group) (filter test ps))
  members_by f test here [] = refl
  members_by f test here (p ∷ ps) =
      some_of (member_key f p == k) (members_at f c) p (filter (λ q. member_key f q == k) ps)
      ∙ ap (λ xs. xs ++ flat_map (members_at f c) (filter (λ q. member_key f q == k) ps)) (here p)
      ∙ ap (λ xs. cond (test p) (option_to_list (option_and_then (λ n. index_of_name n c.names) (defined_name p.group))) [] ++ xs) (members_by f test here ps)
      ∙ sym (some_named (test p) p (filter test ps))

  here : (p : GroupInContext)
      → cond (member_key (enclosing_choice c) p == k) (members_at (enclosing_choice c) c p) [] ≡ cond (is_member_of g p)
      (option_to_list (option_and_then (λ n. index_of_name n c.names) (defined_name p.group))) []
  here p = here_by p.choice (option_and_then (choice_number c) p.choice) (defined_name p.group) refl

  and_false : (b : Bool) → (b && false) ≡ false
  and_false true = refl
  and_false false = refl

  and_true : (b : Bool) → (b && true) ≡ b
  and_true true = refl
  and_true false = refl

  own_here : (p : GroupInContext)
      → cond (member_key (own_choice c) p == k) (members_at (own_choice c) c p) [] ≡ cond (is_member_of g p && begins_symbol c p)
      (option_to_list (option_and_then (λ n. index_of_name n c.names) (defined_name p.group))) []
  own_here p = by_first (begins_symbol c p) refl
    where
      by_first : (b : Bool) → begins_symbol c p ≡ b
          → cond (member_key (own_choice c) p == k) (members_at (own_choice c) c p) [] ≡ cond (is_member_of g p && begins_symbol c p)
          (option_to_list (option_and_then (λ n. index_of_name n c.names) (defined_name p.group))) []
      by_first true e =
          ap (λ b. cond (elim (cond b (enclosing_choice c p) None) as (λ _. ℕ) [ None ↦ 0 | Some j ↦ j ] == k)
          (member_in c (cond b (enclosing_choice c p) None) (defined_name p.group)) []) e
          ∙ here p
          ∙ ap (λ b. cond b (option_to_list (option_and_then (λ n. index_of_name n c.names) (defined_name p.group))) [])
          (sym (ap (λ b. is_member_of g p && b) e ∙ and_true (is_member_of g p)))
      by_first false e =
          ap (λ b. cond (elim (cond b (enclosing_choice c p) None) as (λ _. ℕ) [ None ↦ 0 | Some j ↦ j ] == k)
          (member_in c (cond b (enclosing_choice c p) None) (defined_name p.group)) []) e
          ∙ nothing_either (0 == k) [] refl
          ∙ sym (nothing_false (is_member_of g p && begins_symbol c p)
          (option_to_list (option_and_then (λ n. index_of_name n c.names) (defined_name p.group)))
          (ap (λ b. is_member_of g p && b) e ∙ and_false (is_member_of g p)))

  -- the symbols collected under the number of a choice, by all definitions in it
  pub members_are : items_of k (flat_map (member_keys_at (enclosing_choice c) c) c.places) (flat_map (members_at (enclosing_choice c) c) c.places)
      ≡ filter_map (λ x. index_of_name x c.names) (member_names c g)
  members_are =
      grouped_is (member_key (enclosing_choice c)) (members_at (enclosing_choice c) c) k c.places ∙ members_by (enclosing_choice c) (is_member_of g) here c.places

  -- the symbols collected under the number of a choice, by their first definitions, are the members of the choice, in order
  pub own_members_are : items_of k (flat_map (member_keys_at (own_choice c) c) c.places) (flat_map (members_at (own_choice c) c) c.places)
      ≡ filter_map (λ x. index_of_name x c.names) (own_member_names c g)
  own_members_are =
      grouped_is (member_key (own_choice c)) (members_at (own_choice c) c) k c.places
      ∙ members_by (own_choice c) (λ p. is_member_of g p && begins_symbol c p) own_here c.places

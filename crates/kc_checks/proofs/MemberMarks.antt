-- The members of a choice, and their marks.
use Rattle.kc_checks.proofs.Common.{◌≡◌, ℕ, ◌<◌, Bool, true, false, List, length, get_or, Option, Some, None, refl, ap, sym, subst, ◌∙◌, arith, filter, All, slice_get, slice_index, filter_map, flat_map, is_some, option_and_then, list_any, eq-eqb, index_of_name, Group, defined_name, GroupInContext}
use Rattle.kc_checks.proofs.Common.{groups_in_context, Contents, contents_of, choice_number, is_member_of, member_names, names_defined, Has, filter_map-has, get_below, has-at, has-filter, has-place, number-get, place-get, has_mapped, AreMarked, WereMarked, member_in, member_key, member_keys_at}
use Rattle.kc_checks.proofs.Common.{members_at, ◌==◌}
use Rattle.std.proofs.lemmas.Option.{slice_get-get_or}
use Rattle.kc_tree_model.proofs.Consistency.Lists.{any-has, has-any, has-filter_map, has_flat_map}
use Rattle.kc_checks.proofs.Symbols.{named_there}

-- a property of each element of a list holds for all of them
pub all_has : {A : Type 0} (P : A → Type 0) (xs : List A) → ((x : A) → Has x xs → P x) → All P xs
all_has P xs h = λ k d l. h (get_or xs k d) (has-at (get_or xs k d) xs k (slice_get-get_or xs k d l))

-- the indices at which members occur in a list of names are below its length
pub members_small : (names members : List (List ℕ)) → All (λ s. s < length names) (filter_map (λ x. index_of_name x names) members)
members_small names members =
    all_has (λ s. s < length names) (filter_map (λ x. index_of_name x names) members)
    (λ s h. let r = has-filter_map (λ x. index_of_name x names) members s h in get_below names s r.0 (place-get r.0 names s r.2))

-- the choice of a member is there
key_in : (c : Contents) (around : Option ℕ) (o : Option ℕ) (x : Option (List ℕ)) (s : ℕ) → around ≡ o → Has s (member_in c o x) → (j : ℕ) × (around ≡ Some j)
key_in c around None x s e h = absurd h
key_in c around (Some j) x s e h = (j, e)

pub enclosing_below : (c : Contents) (o : Option ℕ) (j : ℕ) → option_and_then (choice_number c) o ≡ Some j → j < length c.choices
enclosing_below c None j h = cc
enclosing_below c (Some n) j h = get_below c.choices j n (number-get n c.choices j h)

pub keys_small : (c : Contents) (around : GroupInContext → Option ℕ) → ((p : GroupInContext) (j : ℕ) → around p ≡ Some j → j < length c.choices)
    → (ps : List GroupInContext) → All (λ k. k < length c.choices) (flat_map (member_keys_at around c) ps)
keys_small c around small ps = all_has (λ k. k < length c.choices) (flat_map (member_keys_at around c) ps) (λ k h.
    let r = has_flat_map (member_keys_at around c) ps k h in
    let m = has_mapped (λ _. member_key around r.0) (members_at around c r.0) k r.2 in
    let j = key_in c (around r.0) (around r.0) (defined_name r.0.group) m.0 refl m.1 in
    let below = small r.0 j.0 j.1 in
    let is : j.0 ≡ k = sym (ap (λ o. elim o as (λ _. ℕ) [ None ↦ 0 | Some i ↦ i ]) j.1) ∙ m.2 in
    omega arith)

-- a name that no entry defines isn't that of a choice member
pub member_defined : (read : List Group) (g : ℕ) (x : List ℕ) → index_of_name x (names_defined read) ≡ None
    → index_of_name x (member_names (contents_of read) g) ≡ None
member_defined read g x e = by_place (index_of_name x (member_names (contents_of read) g)) refl
  where
    by_place : (o : Option ℕ) → index_of_name x (member_names (contents_of read) g) ≡ o → o ≡ None
    by_place None f = refl
    by_place (Some j) f =
        let h = has-at x (member_names (contents_of read) g) j (place-get x (member_names (contents_of read) g) j f) in
        let p = has-filter_map (λ (q : GroupInContext). defined_name q.group) (filter (is_member_of g) (groups_in_context read)) x h in
        let q = has-filter (is_member_of g) (groups_in_context read) p.0 p.1 in
        let i = has-place x (names_defined read) (named_there read p.0 x q.0 p.2) in
        let there : index_of_name x (names_defined read) ≡ Some i.0 = i.1 in
        cc

-- a mark that is smaller than another isn't equal to it
pub marked_test : (m mark : ℕ) → m < mark → (m == mark) ≡ false
marked_test m mark h = grind arith

pub are_marked : (names members : List (List ℕ)) (old new : List ℕ) (mark : ℕ) → length old ≡ length names → ((s : ℕ) → slice_index old s < mark)
    → WereMarked old (filter_map (λ x. index_of_name x names) members) mark new
    → ((x : List ℕ) → index_of_name x names ≡ None → index_of_name x members ≡ None)
    → ((s : ℕ) (x : List ℕ) → slice_get names s ≡ Some x → index_of_name x names ≡ Some s) → AreMarked names members new mark
are_marked names members old new mark many small were within places =
    record { marked = λ s x at. by_any s x at (list_any (λ m. m == s) (filter_map (λ y. index_of_name y names) members)) refl; within = within }
  where
    by_any : (s : ℕ) (x : List ℕ) → slice_get names s ≡ Some x → (b : Bool) → list_any (λ m. m == s) (filter_map (λ y. index_of_name y names) members) ≡ b
        → (slice_index new s == mark) ≡ is_some (index_of_name x members)
    by_any s x at true e =
        let below = get_below names s x at in
        let is : slice_index new s ≡ mark = were.marked s (omega arith) e in
        let r = has-filter_map (λ y. index_of_name y names) members s (has-any s (filter_map (λ y. index_of_name y names) members) e) in
        let own : slice_get names s ≡ Some r.0 = place-get r.0 names s r.2 in
        let same : r.0 ≡ x = cc in
        let j = has-place x members (subst (λ y. Has y members) same r.1) in
        ap (λ m. m == mark) is ∙ eq-eqb mark mark refl ∙ sym (ap is_some j.1)
    by_any s x at false e =
        let is : slice_index new s ≡ slice_index old s = were.kept s e in
        ap (λ m. m == mark) is ∙ marked_test (slice_index old s) mark (small s) ∙ sym (by_place (index_of_name x members) refl)
      where
        by_place : (o : Option ℕ) → index_of_name x members ≡ o → is_some o ≡ false
        by_place None f = refl
        by_place (Some j) f =
            let h = has-at x members j (place-get x members j f) in
            let k = filter_map-has (λ y. index_of_name y names) members x s h (places s x at) in
            let t : list_any (λ m. m == s) (filter_map (λ y. index_of_name y names) members) ≡ true = any-has s
            (filter_map (λ y. index_of_name y names) members) k in
            cc

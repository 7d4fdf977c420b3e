-- The overridden lines are those after which a file asks for another value.
use Rattle.kc_reasons_model.proofs.Common.{◌≡◌, ◌≢◌, ℕ, zero, suc, ◌+◌, ◌<◌, Bool, true, false, not, cond, List, [], ◌∷◌, ◌++◌, map, Option, Some, None, refl, sym, ◌∙◌, ap, subst, arith, option_map, option_to_list, find, is_some, AllByRecursion, true≢false, false≢true, map-append}
use Rattle.kc_reasons_model.proofs.Common.{All-from_recursion, Contains-append_left, Contains-append_right, UserValue, LineMeaning, AssigningLine, AssigningPlace, place_giving, assigning_line}
use Rattle.std.specs.Prelude.{Contains}
use Rattle.std.proofs.lemmas.List.Elements.{Contains-push}
use Rattle.kc_rules_model.specs.Equality.{same_user}
use Rattle.kc_rules_model.specs.checker.EqualityLaws.{users_decided}
use Rattle.kc_reasons_model.specs.OverriddenLines.{places_of, asks_otherwise, OverriddenPlace, overriding, overridden, IsPlaceIn, IsOverridden, ListedAreOverridden, OverriddenAreListed}

apart : (x y : UserValue) → same_user x y ≡ false → y ≢ x
apart x y e same = true≢false (sym ((users_decided x y).1 (sym same)) ∙ e)

differ : (x y : UserValue) → y ≢ x → same_user x y ≡ false
differ x y other = go (same_user x y) refl where
  go : (b : Bool) → same_user x y ≡ b → b ≡ false
  go true e = absurd (other (sym ((users_decided x y).0 e)))
  go false e = refl

module _ (u s : ℕ) where
  abbrev places : ℕ → List (List LineMeaning) → List AssigningPlace
  places f files = places_of u s f files

  abbrev At : ℕ → List (List LineMeaning) → ℕ → AssigningPlace → Type 0
  At f files k p = IsPlaceIn u s f files k p

  -- after one more file
  shift : (f : ℕ) (meanings : List LineMeaning) (files : List (List LineMeaning)) (k : ℕ) (p : AssigningPlace) → At (f + 1) files k p → At f (meanings ∷ files) (suc k) p
  shift f meanings files k p h = record { meanings = h.meanings; is = h.is; number = (let e = h.number in omega arith); here = h.here }

  unshift : (f : ℕ) (meanings : List LineMeaning) (files : List (List LineMeaning)) (k : ℕ) (p : AssigningPlace) → At f (meanings ∷ files) (suc k) p → At (f + 1) files k p
  unshift f meanings files k p h = record { meanings = h.meanings; is = h.is; number = (let e = h.number in omega arith); here = h.here }

  in_first : (f : ℕ) (meanings : List LineMeaning) (files : List (List LineMeaning)) (p : AssigningPlace) → At f (meanings ∷ files) 0 p → assigning_line u s 1 meanings ≡ Some p.line
  in_first f meanings files p h = let same : meanings ≡ h.meanings = cc in ap (assigning_line u s 1) same ∙ h.here

  -- the first place whose line asks for another value
  record FirstOther (x : UserValue) (f : ℕ) (files : List (List LineMeaning)) (q : AssigningPlace) : Type 0 where
    k : ℕ
    at : At f files k q
    other : same_user x q.line.user ≡ false
    before : (j : ℕ) (r : AssigningPlace) → j < k → At f files j r → r.line.user ≡ x

  first_other : (x : UserValue) (f : ℕ) (files : List (List LineMeaning)) (q : AssigningPlace) → find (asks_otherwise x) (places f files) ≡ Some q → FirstOther x f files q
  first_other x f [] q e = absurd (cc)
  first_other x f (meanings ∷ files) q e = go (assigning_line u s 1 meanings) refl e (first_other x (f + 1) files q) where
    go : (o : Option AssigningLine) → assigning_line u s 1 meanings ≡ o → find (asks_otherwise x) (option_to_list (place_giving f o) ++ places (f + 1) files) ≡ Some q
        → (find (asks_otherwise x) (places (f + 1) files) ≡ Some q → FirstOther x (f + 1) files q) → FirstOther x f (meanings ∷ files) q
    go None is e rest = let found = rest e in record { k = suc found.k; at = shift f meanings files found.k q found.at; other = found.other; before = earlier found } where
      earlier : (found : FirstOther x (f + 1) files q) (j : ℕ) (r : AssigningPlace) → j < suc found.k → At f (meanings ∷ files) j r → r.line.user ≡ x
      earlier found zero r below h = let none = in_first f meanings files r h in absurd (cc)
      earlier found (suc j) r below h = found.before j r (omega arith) (unshift f meanings files j r h)
    go (Some line) is e rest = by_test (same_user x line.user) refl where
      by_test : (b : Bool) → same_user x line.user ≡ b → FirstOther x f (meanings ∷ files) q
      by_test true same =
          let found = rest (sym (ap (λ d. cond (not d) (Some (record { file = f; line = line })) (find (asks_otherwise x) (places (f + 1) files))) same) ∙ e) in
          record { k = suc found.k; at = shift f meanings files found.k q found.at; other = found.other; before = earlier found }
        where
          earlier : (found : FirstOther x (f + 1) files q) (j : ℕ) (r : AssigningPlace) → j < suc found.k → At f (meanings ∷ files) j r → r.line.user ≡ x
          earlier found zero r below h = ap user_in (sym (in_first f meanings files r h) ∙ is) ∙ sym ((users_decided x line.user).0 same) where
            user_in : Option AssigningLine → UserValue
            user_in None = x
            user_in (Some l) = l.user
          earlier found (suc j) r below h = found.before j r (omega arith) (unshift f meanings files j r h)
      by_test false same =
          let this : AssigningPlace = record { file = f; line = line } in
          let is_q : Some this ≡ Some q = sym (ap (λ d. cond (not d) (Some this) (find (asks_otherwise x) (places (f + 1) files))) same) ∙ e in
          subst (FirstOther x f (meanings ∷ files)) (one is_q)
          (record { k = 0; at = record { meanings = meanings; is = refl; number = omega arith; here = is }; other = same; before = λ j r below h. absurd (omega arith) })
        where
          one : {a b : AssigningPlace} → Some a ≡ Some b → a ≡ b
          one e = cc

  -- each that is listed
  more : (f : ℕ) (meanings : List LineMeaning) (files : List (List LineMeaning)) (o : OverriddenPlace) → IsOverridden u s (f + 1) files o → IsOverridden u s f (meanings ∷ files) o
  more f meanings files o h = record {
    i = suc h.i;
    j = suc h.j;
    later = (let e = h.later in omega arith);
    place = shift f meanings files h.i o.place h.place;
    by = shift f meanings files h.j o.by h.by;
    other = h.other;
    between = between;
  } where
    between : (k : ℕ) (p : AssigningPlace) → suc h.i < k → k < suc h.j → At f (meanings ∷ files) k p → p.line.user ≡ o.place.line.user
    between zero p above below at = absurd (omega arith)
    between (suc k) p above below at = h.between k p (omega arith) (omega arith) (unshift f meanings files k p at)

  all_more : (f : ℕ) (meanings : List LineMeaning) (files : List (List LineMeaning)) (os : List OverriddenPlace) → AllByRecursion (IsOverridden u s (f + 1) files) os → AllByRecursion (IsOverridden u s f (meanings ∷ files)) os
  all_more f meanings files [] all = tt
  all_more f meanings files (o ∷ os) all = (more f meanings files o all.0, all_more f meanings files os all.1)

  at_front : (f : ℕ) (meanings : List LineMeaning) (files : List (List LineMeaning)) (line : AssigningLine) (q : AssigningPlace) → assigning_line u s 1 meanings ≡ Some line
      → FirstOther line.user (f + 1) files q → IsOverridden u s f (meanings ∷ files) (record { place = record { file = f; line = line }; by = q })
  at_front f meanings files line q is found = record {
    i = 0;
    j = suc found.k;
    later = omega arith;
    place = record { meanings = meanings; is = refl; number = omega arith; here = is };
    by = shift f meanings files found.k q found.at;
    other = apart line.user q.line.user found.other;
    between = between;
  } where
    between : (k : ℕ) (p : AssigningPlace) → 0 < k → k < suc found.k → At f (meanings ∷ files) k p → p.line.user ≡ line.user
    between zero p above below at = absurd (omega arith)
    between (suc k) p above below at = found.before k p (omega arith) (unshift f meanings files k p at)

  each : (f : ℕ) (files : List (List LineMeaning)) → AllByRecursion (IsOverridden u s f files) (overridden (places f files))
  each f [] = tt
  each f (meanings ∷ files) = go (assigning_line u s 1 meanings) refl (all_more f meanings files (overridden (places (f + 1) files)) (each (f + 1) files)) where
    go : (o : Option AssigningLine) → assigning_line u s 1 meanings ≡ o → AllByRecursion (IsOverridden u s f (meanings ∷ files)) (overridden (places (f + 1) files))
        → AllByRecursion (IsOverridden u s f (meanings ∷ files)) (overridden (option_to_list (place_giving f o) ++ places (f + 1) files))
    go None is rest = rest
    go (Some line) is rest = by_found (find (asks_otherwise line.user) (places (f + 1) files)) refl where
      by_found : (o : Option AssigningPlace) → find (asks_otherwise line.user) (places (f + 1) files) ≡ o
          → AllByRecursion (IsOverridden u s f (meanings ∷ files)) (option_to_list (option_map (λ q. record { place = record { file = f; line = line }; by = q }) o) ++ overridden (places (f + 1) files))
      by_found None e = rest
      by_found (Some q) e = (at_front f meanings files line q is (first_other line.user (f + 1) files q e), rest)

  -- and no other is left out
  some_other : (x : UserValue) (f : ℕ) (files : List (List LineMeaning)) (j : ℕ) (q : AssigningPlace) → At f files j q → same_user x q.line.user ≡ false → is_some (find (asks_otherwise x) (places f files)) ≡ true
  some_other x f [] j q h other = let none = h.is in absurd (cc)
  some_other x f (meanings ∷ files) zero q h other =
      let is = in_first f meanings files q h in
      ap (λ o. is_some (find (asks_otherwise x) (option_to_list (place_giving f o) ++ places (f + 1) files))) is
      ∙ ap (λ d. is_some (cond (not d) (Some (record { file = f; line = q.line })) (find (asks_otherwise x) (places (f + 1) files)))) other
  some_other x f (meanings ∷ files) (suc j) q h other = go (assigning_line u s 1 meanings) (some_other x (f + 1) files j q (unshift f meanings files j q h) other) where
    go : (o : Option AssigningLine) → is_some (find (asks_otherwise x) (places (f + 1) files)) ≡ true → is_some (find (asks_otherwise x) (option_to_list (place_giving f o) ++ places (f + 1) files)) ≡ true
    go None rest = rest
    go (Some line) rest = by_test (same_user x line.user) where
      by_test : (b : Bool) → is_some (cond (not b) (Some (record { file = f; line = line })) (find (asks_otherwise x) (places (f + 1) files))) ≡ true
      by_test true = rest
      by_test false = refl

  abbrev overridden_places : List AssigningPlace → List AssigningPlace
  overridden_places ps = map (λ (o : OverriddenPlace). o.place) (overridden ps)

  first_listed : (p : AssigningPlace) (later : List AssigningPlace) → is_some (find (asks_otherwise p.line.user) later) ≡ true → Contains (overridden_places (p ∷ later)) p
  first_listed p later some = go (find (asks_otherwise p.line.user) later) some where
    go : (o : Option AssigningPlace) → is_some o ≡ true → Contains (map (λ (o : OverriddenPlace). o.place) (option_to_list (option_map (λ q. record { place = p; by = q }) o) ++ overridden later)) p
    go None some = absurd (false≢true some)
    go (Some q) some = Contains-append_left (p ∷ []) (overridden_places later) p (Contains-push [] p)

  others_listed : (p r : AssigningPlace) (later : List AssigningPlace) → Contains (overridden_places later) p → Contains (overridden_places (r ∷ later)) p
  others_listed p r later there =
      subst (λ ps. Contains ps p) (sym (map-append (λ (o : OverriddenPlace). o.place) (option_to_list (overriding r later)) (overridden later)))
      (Contains-append_right (map (λ (o : OverriddenPlace). o.place) (option_to_list (overriding r later))) (overridden_places later) p there)

  listed : (f : ℕ) (files : List (List LineMeaning)) (i j : ℕ) (p q : AssigningPlace) → i < j → At f files i p → At f files j q → same_user p.line.user q.line.user ≡ false → Contains (overridden_places (places f files)) p
  listed f [] i j p q before at_p at_q other = let none = at_p.is in absurd (cc)
  listed f (meanings ∷ files) i zero p q before at_p at_q other = absurd (omega arith)
  listed f (meanings ∷ files) zero (suc j) p q before at_p at_q other =
      let is = in_first f meanings files p at_p in
      let number : f ≡ p.file = (let e = at_p.number in omega arith) in
      let some = some_other p.line.user (f + 1) files j q (unshift f meanings files j q at_q) other in
      subst (λ o. Contains (overridden_places (option_to_list (place_giving f o) ++ places (f + 1) files)) p) (sym is)
      (subst (λ n. Contains (overridden_places (record { file = n; line = p.line } ∷ places (f + 1) files)) p) (sym number) (first_listed p (places (f + 1) files) some))
  listed f (meanings ∷ files) (suc i) (suc j) p q before at_p at_q other =
      go (assigning_line u s 1 meanings) (listed (f + 1) files i j p q (omega arith) (unshift f meanings files i p at_p) (unshift f meanings files j q at_q) other)
    where
      go : (o : Option AssigningLine) → Contains (overridden_places (places (f + 1) files)) p → Contains (overridden_places (option_to_list (place_giving f o) ++ places (f + 1) files)) p
      go None there = there
      go (Some line) there = others_listed p (record { file = f; line = line }) (places (f + 1) files) there

pub listed_overridden : ListedAreOverridden
listed_overridden u s first files = All-from_recursion _ _ (each u s first files)

pub overridden_listed : OverriddenAreListed
overridden_listed u s first files i j p q before at_p at_q other = listed u s first files i j p q before at_p at_q (differ p.line.user q.line.user other)

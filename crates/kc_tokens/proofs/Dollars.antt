-- The `$` between quotes.
use Rattle.std.proofs.Common.{ltb}
use Rattle.std.specs.Prelude.{position}
use Rattle.std.specs.List.{position_or_len}
use Rattle.std.proofs.lemmas.Bool.{le-ltb, lt-ltb, ltb-true}
use Rattle.kc_tokens.proofs.Common.{◌≡◌, ℕ, suc, ◌+◌, ◌<◌, Bool, true, false, eqb, cond, List, [], ◌∷◌, ◌++◌, length, Option, Some, None, refl, ap, sym, ◌∙◌, append_assoc, length-append, arith, option_map, list_any, or_parts, eqb-true, further, IsBetweenQuotes, Language, Strict, Linux, bare_dollar}
use Rattle.kc_tokens.proofs.Common.{dollar_left_out}
use Rattle.kc_value.specs.QuotedTexts.{none, plain, pair}
use Rattle.kc_tokens.specs.declared.language.LinuxVersion.{LinuxVersion}
use Rattle.kc_tokens.specs.TokenGrammar.{HasDollarsInPairs, empty, other, paired, HasDollarsOf}

-- the place of the first `$`, or the length
abbrev dollar_place : List ℕ → ℕ
dollar_place xs = position_or_len (λ c. eqb c 36) xs

-- no place where no byte passes
no_place : (p : ℕ → Bool) (xs : List ℕ) → list_any p xs ≡ false → position_or_len p xs ≡ length xs
no_place p [] h = refl
no_place p (x ∷ xs) h = let (f, r) = or_parts (p x) (list_any p xs) h in rw f (omega (arith, no_place p xs r))

pub position_none : (p : ℕ → Bool) (xs : List ℕ) → list_any p xs ≡ false → position p xs ≡ None
position_none p xs h = let e = no_place p xs h in let t : ltb (position_or_len p xs) (length xs) ≡ false = le-ltb _ _ (omega (arith, e)) in rw t refl

any_append : (p : ℕ → Bool) (xs ys : List ℕ) → list_any p xs ≡ false → list_any p ys ≡ false → list_any p (xs ++ ys) ≡ false
any_append p [] ys h k = k
any_append p (x ∷ xs) ys h k = let (f, r) = or_parts (p x) (list_any p xs) h in rw f (any_append p xs ys r k)

place_below : (p : ℕ → Bool) (xs : List ℕ) → list_any p xs ≡ true → position_or_len p xs < length xs
place_below p [] h = cc
place_below p (x ∷ xs) h = by_head (p x) refl (λ r. place_below p xs r)
  where
    by_head : (t : Bool) → p x ≡ t → (list_any p xs ≡ true → position_or_len p xs < length xs) → position_or_len p (x ∷ xs) < length (x ∷ xs)
    by_head true e ih = rw e (omega arith)
    by_head false e ih = let r = rw e at h in rw e (omega (arith, ih r))

none_any : (p : ℕ → Bool) (xs : List ℕ) (t : Bool) → list_any p xs ≡ t → position p xs ≡ None → t ≡ false
none_any p xs false e h = refl
none_any p xs true e h =
    let l : ltb (position_or_len p xs) (length xs) ≡ true = lt-ltb _ _ (place_below p xs e) in
    let q = rw l at h in cc

any_front : (p : ℕ → Bool) (xs ys : List ℕ) → list_any p (xs ++ ys) ≡ false → list_any p xs ≡ false
any_front p [] ys h = refl
any_front p (x ∷ xs) ys h = let (f, r) = or_parts (p x) (list_any p (xs ++ ys)) h in rw f (any_front p xs ys r)

-- without a `$` there is none outside pairs
pub bare_of_any : (escaped : Bool) (text : List ℕ) → list_any (λ c. eqb c 36) text ≡ false → bare_dollar escaped text ≡ None
bare_of_any escaped [] h = refl
bare_of_any true (c ∷ cs) h = let (f, r) = or_parts (eqb c 36) (list_any (λ c. eqb c 36) cs) h in ap (option_map suc) (bare_of_any false cs r)
bare_of_any false (c ∷ cs) h = let (f, r) = or_parts (eqb c 36) (list_any (λ c. eqb c 36) cs) h in rw f (ap (option_map suc) (bare_of_any (eqb c 92) cs r))

pub bare_of_none : (version : LinuxVersion) (text : List ℕ) → dollar_left_out Strict text ≡ None → dollar_left_out (Linux version) text ≡ None
bare_of_none version text h = bare_of_any false text (none_any (λ c. eqb c 36) text (list_any (λ c. eqb c 36) text) refl h)

-- a body with its `$` in pairs has no other
bare_none : (body rest : List ℕ) → HasDollarsInPairs body → bare_dollar false rest ≡ None → bare_dollar false (body ++ rest) ≡ None
bare_none body rest empty h = h
bare_none body rest (other {c = c} {bs = bs} d s p) h = rw (d, s) (ap (option_map suc) (bare_none bs rest p h))
bare_none body rest (paired {c = c} {bs = bs} p) h = ap (λ o. option_map suc (option_map suc o)) (bare_none bs rest p h)

none_under : (o : Option ℕ) → option_map suc o ≡ None → o ≡ None
none_under None h = refl
none_under (Some n) h = cc

no_first : (t : Bool) (o : Option ℕ) → cond t (Some 0) (option_map suc o) ≡ None → (t ≡ false) × (o ≡ None)
no_first true o h = cc
no_first false o h = (refl, none_under o h)

-- a body in which each `$` that there is is in a pair
bare_body : (quote : ℕ) (body means rest : List ℕ) → IsBetweenQuotes quote body means → bare_dollar false (body ++ rest) ≡ None → HasDollarsInPairs body
bare_body quote body means rest none h = empty
bare_body quote body means rest (plain {c = c} {bs = bs} {cs = cs} q s p) h =
    let g : cond (eqb c 36) (Some 0) (option_map suc (bare_dollar false (bs ++ rest))) ≡ None = rw s at h in
    let (d, r) = no_first (eqb c 36) (bare_dollar false (bs ++ rest)) g in
    other d s (bare_body quote bs cs rest p r)
bare_body quote body means rest (pair {c = c} {bs = bs} {cs = cs} p) h =
    paired (bare_body quote bs cs rest p (none_under (bare_dollar false (bs ++ rest)) (none_under (option_map suc (bare_dollar false (bs ++ rest))) h)))

-- the first `$` after those that are allowed
bare_first : (front rest : List ℕ) → HasDollarsInPairs front → bare_dollar false (front ++ 36 ∷ rest) ≡ Some (length front)
bare_first front rest empty = refl
bare_first front rest (other {c = c} {bs = bs} d s p) = rw (d, s) (ap (option_map suc) (bare_first bs rest p))
bare_first front rest (paired {c = c} {bs = bs} p) = ap (λ o. option_map suc (option_map suc o)) (bare_first bs rest p)

place_first : (front rest : List ℕ) → list_any (λ c. eqb c 36) front ≡ false → dollar_place (front ++ 36 ∷ rest) ≡ length front
place_first [] rest h = refl
place_first (c ∷ cs) rest h = let (f, r) = or_parts (eqb c 36) (list_any (λ c. eqb c 36) cs) h in rw f (omega (arith, place_first cs rest r))

-- a body between quotes has at a place its first `$` that the language leaves out
pub record IsFirstDollar (language : Language) (body : List ℕ) (place : ℕ) : Type 0 where
  pub front : List ℕ
  pub back : List ℕ
  pub parts : body ≡ front ++ 36 ∷ back
  pub is_place : place ≡ length front
  pub dollars : HasDollarsOf language front

some_under : (o : Option ℕ) (k : ℕ) → option_map suc o ≡ Some k → (m : ℕ) × (o ≡ Some m) × (k ≡ suc m)
some_under None k h = cc
some_under (Some m) k h = (m, refl, cc)

first_at : (k : ℕ) → Some 0 ≡ Some k → k ≡ 0
first_at k h = cc

dollar_first : (language : Language) (c k : ℕ) (bs : List ℕ) → HasDollarsOf language [] → eqb c 36 ≡ true → k ≡ 0 → IsFirstDollar language (c ∷ bs) k
dollar_first language c k bs h d e = record { front = []; back = bs; parts = ap (λ x. x ∷ bs) (eqb-true c 36 d); is_place = e; dollars = h }

bare_found : (version : LinuxVersion) (quote : ℕ) (body means : List ℕ) (k : ℕ) → eqb quote 36 ≡ false → IsBetweenQuotes quote body means → bare_dollar false (body ++ quote ∷ []) ≡ Some k
    → IsFirstDollar (Linux version) body k
bare_found version quote body means k q none h = let g : None ≡ Some k = rw q at h in cc
bare_found version quote body means k q (plain {c = c} {bs = bs} {cs = cs} n s p) h = by_dollar (eqb c 36) refl (rw s at h) (λ m e. bare_found version quote bs cs m q p e)
  where
    by_dollar : (t : Bool) → eqb c 36 ≡ t → cond t (Some 0) (option_map suc (bare_dollar false (bs ++ quote ∷ []))) ≡ Some k
        → ((m : ℕ) → bare_dollar false (bs ++ quote ∷ []) ≡ Some m → IsFirstDollar (Linux version) bs m) → IsFirstDollar (Linux version) (c ∷ bs) k
    by_dollar true d g ih = dollar_first (Linux version) c k bs empty d (first_at k g)
    by_dollar false d g ih =
        let (m, e, l) = some_under (bare_dollar false (bs ++ quote ∷ [])) k g in
        let f = ih m e in
        record { front = c ∷ f.front; back = f.back; parts = ap (λ x. c ∷ x) f.parts; is_place = l ∙ ap suc f.is_place; dollars = other d s f.dollars }
bare_found version quote body means k q (pair {c = c} {bs = bs} {cs = cs} p) h =
    let (m, e, l) = some_under (option_map suc (bare_dollar false (bs ++ quote ∷ []))) k h in
    let (i, g, j) = some_under (bare_dollar false (bs ++ quote ∷ [])) m e in
    let f = bare_found version quote bs cs i q p g in
    let place = l ∙ ap suc (j ∙ ap suc f.is_place) in
    record { front = 92 ∷ c ∷ f.front; back = f.back; parts = ap (λ x. 92 ∷ c ∷ x) f.parts; is_place = place; dollars = paired f.dollars }

place_more : (c : ℕ) (bs more : List ℕ) → eqb c 36 ≡ false → IsFirstDollar Strict bs (dollar_place more)
    → IsFirstDollar Strict (c ∷ bs) (dollar_place (c ∷ more))
place_more c bs more d f = record {
  front = c ∷ f.front;
  back = f.back;
  parts = ap (λ x. c ∷ x) f.parts;
  is_place = rw d (omega (arith, f.is_place));
  dollars = rw d f.dollars;
}

place_found : (quote : ℕ) (body : List ℕ) → eqb quote 36 ≡ false → dollar_place (body ++ quote ∷ []) < length (body ++ quote ∷ [])
    → IsFirstDollar Strict body (dollar_place (body ++ quote ∷ []))
place_found quote [] q h = let g = rw q at h in absurd (omega (arith, g))
place_found quote (c ∷ bs) q h = by_dollar (eqb c 36) refl (λ l. place_found quote bs q l)
  where
    by_dollar : (t : Bool) → eqb c 36 ≡ t
        → (dollar_place (bs ++ quote ∷ []) < length (bs ++ quote ∷ []) → IsFirstDollar Strict bs (dollar_place (bs ++ quote ∷ [])))
        → IsFirstDollar Strict (c ∷ bs) (dollar_place (c ∷ (bs ++ quote ∷ [])))
    by_dollar true d ih = dollar_first Strict c _ bs refl d (rw d refl)
    by_dollar false d ih = let l = rw d at h in place_more c bs (bs ++ quote ∷ []) d (ih (omega (arith, l)))

at_place : (p : ℕ → Bool) (xs : List ℕ) (k : ℕ) → position p xs ≡ Some k → (position_or_len p xs < length xs) × (position_or_len p xs ≡ k)
at_place p xs k h = by_test (ltb (position_or_len p xs) (length xs)) refl h
  where
    by_test : (t : Bool) → ltb (position_or_len p xs) (length xs) ≡ t → cond t (Some (position_or_len p xs)) None ≡ Some k
        → (position_or_len p xs < length xs) × (position_or_len p xs ≡ k)
    by_test true e g = (ltb-true _ _ e, cc)
    by_test false e g = cc

-- between two quotes, which are neither `$` nor a backslash
module _ (q : ℕ) (body : List ℕ) (dollar : eqb q 36 ≡ false) (slash : eqb q 92 ≡ false) where
  pub none_left_out : (language : Language) → HasDollarsOf language body → dollar_left_out language (q ∷ (body ++ q ∷ [])) ≡ None
  none_left_out Strict h =
      let clean : list_any (λ c. eqb c 36) (q ∷ (body ++ q ∷ [])) ≡ false = rw dollar (any_append (λ c. eqb c 36) body (q ∷ []) h (rw dollar refl)) in
      position_none (λ c. eqb c 36) (q ∷ (body ++ q ∷ [])) clean
  none_left_out (Linux version) h =
      let last : bare_dollar false (q ∷ []) ≡ None = rw dollar refl in
      rw (dollar, slash) (ap (option_map suc) (bare_none body (q ∷ []) h last))

  pub dollars_between : (language : Language) (means : List ℕ) → IsBetweenQuotes q body means → dollar_left_out language (q ∷ (body ++ q ∷ [])) ≡ None
      → HasDollarsOf language body
  dollars_between Strict means b h =
      let clean = none_any (λ c. eqb c 36) (q ∷ (body ++ q ∷ [])) (list_any (λ c. eqb c 36) (q ∷ (body ++ q ∷ []))) refl h in
      let (f, r) = or_parts (eqb q 36) (list_any (λ c. eqb c 36) (body ++ q ∷ [])) clean in
      any_front (λ c. eqb c 36) body (q ∷ []) r
  dollars_between (Linux version) means b h =
      let g = rw (dollar, slash) at h in
      bare_body q body means (q ∷ []) b (none_under (bare_dollar false (body ++ q ∷ [])) g)

  pub left_out_first : (language : Language) (front back : List ℕ) → body ≡ front ++ 36 ∷ back → HasDollarsOf language front
      → dollar_left_out language (q ∷ (body ++ q ∷ [])) ≡ Some (suc (length front))
  left_out_first Strict front back e h =
      let text : List ℕ = front ++ 36 ∷ (back ++ q ∷ []) in
      let whole : body ++ q ∷ [] ≡ text = ap (λ x. x ++ q ∷ []) e ∙ append_assoc front (36 ∷ back) (q ∷ []) in
      let place : dollar_place (q ∷ text) ≡ suc (length front) = rw dollar (omega (arith, place_first front (back ++ q ∷ []) h)) in
      let there : ltb (dollar_place (q ∷ text)) (length (q ∷ text)) ≡ true = lt-ltb _ _ (omega (arith, place, length-append front (36 ∷ (back ++ q ∷ [])))) in
      ap (λ x. position (λ c. eqb c 36) (q ∷ x)) whole ∙ ap (λ t. cond t (Some (dollar_place (q ∷ text))) None) there ∙ ap Some place
  left_out_first (Linux version) front back e h =
      let whole : body ++ q ∷ [] ≡ front ++ 36 ∷ (back ++ q ∷ []) = ap (λ x. x ++ q ∷ []) e ∙ append_assoc front (36 ∷ back) (q ∷ []) in
      ap (λ x. bare_dollar false (q ∷ x)) whole ∙ rw (dollar, slash) (ap (option_map suc) (bare_first front (back ++ q ∷ []) h))

  pub first_left_out : (language : Language) (means : List ℕ) (k : ℕ) → IsBetweenQuotes q body means → dollar_left_out language (q ∷ (body ++ q ∷ [])) ≡ Some k
      → (m : ℕ) × (k ≡ suc m) × IsFirstDollar language body m
  first_left_out Strict means k b h =
      let (l, e) = at_place (λ c. eqb c 36) (q ∷ (body ++ q ∷ [])) k h in
      let before = rw dollar at l in
      let one : dollar_place (q ∷ (body ++ q ∷ [])) ≡ suc (dollar_place (body ++ q ∷ [])) = rw dollar (omega arith) in
      (dollar_place (body ++ q ∷ []), sym e ∙ one, place_found q body dollar (omega (arith, before)))
  first_left_out (Linux version) means k b h =
      let (m, e, l) = some_under (bare_dollar false (body ++ q ∷ [])) k (rw (dollar, slash) at h) in
      (m, l, bare_found version q body means m dollar b e)

-- one byte on, after a backslash or not
further_more : (n : ℕ) (o : Option ℕ) → further n (option_map suc o) ≡ further (n + 1) o
further_more n None = refl
further_more n (Some k) = ap Some (omega arith)

pub bare_escaped : (n c : ℕ) (cs : List ℕ) → further n (bare_dollar true (c ∷ cs)) ≡ further (n + 1) (bare_dollar false cs)
bare_escaped n c cs = further_more n (bare_dollar false cs)

pub bare_other : (n c : ℕ) (cs : List ℕ) → eqb c 36 ≡ false → further n (bare_dollar false (c ∷ cs)) ≡ further (n + 1) (bare_dollar (eqb c 92) cs)
bare_other n c cs e = rw e (further_more n (bare_dollar (eqb c 92) cs))

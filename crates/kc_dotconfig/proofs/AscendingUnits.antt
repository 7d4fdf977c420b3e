-- Lists of user values in ascending order of units.
use Rattle.kc_dotconfig.proofs.Common.{◌≡◌, ℕ, zero, suc, ◌-◌, ◌<◌, IsTrue, List, [], ◌∷◌, ◌++◌, length, take, get_or, Some, ◌⊎◌, inl, inr, refl, sym, ◌∙◌, ap, arith, slice_get, nat_cmp_is, nat_cmp, match_ordering, Greater, insert_entry, UserValue, AreAbove, IsAscending, AreBelow}
use Rattle.std.specs.Prelude.{nat_lt}
use Rattle.std.proofs.lemmas.Bool.{ltb-true}
use Rattle.std.proofs.lemmas.List.{length_push}

same_unit : (p q : ℕ × UserValue) → Some p ≡ Some q → p.0 ≡ q.0
same_unit p q e = let same : p ≡ q = cc in ap (λ (r : ℕ × UserValue). r.0) same

-- a unit above the last is above all
last_below : (es : List (ℕ × UserValue)) (i : ℕ) (p : ℕ × UserValue) (v : ℕ) → IsAscending es → Some p ≡ slice_get es i → suc i ≡ length es → p.0 < v
    → AreBelow v es
last_below [] i p v r at n h = tt
last_below (e ∷ []) zero p v r at n h = ((let is = same_unit p e at in omega (arith, is, h)), tt)
last_below (e ∷ []) (suc i) p v r at n h = absurd (omega (arith, n))
last_below (e ∷ f ∷ es) zero p v r at n h = absurd (omega (arith, n))
last_below (e ∷ f ∷ es) (suc i) p v r at n h =
    let rest = last_below (f ∷ es) i p v r.1 at (omega (arith, n)) h in
    ((let a = r.0.0 in let b = rest.0 in omega (arith, a, b)), rest)

pub above_last : (es : List (ℕ × UserValue)) (p : ℕ × UserValue) (v : ℕ) → IsAscending es → Some p ≡ slice_get es (length es - 1) → IsTrue (nat_lt p.0 v)
    → AreBelow v es
above_last [] p v r at h = tt
above_last (e ∷ es) p v r at h =
    let n : length (e ∷ es) - 1 ≡ length es = omega arith in
    last_below (e ∷ es) (length es) p v r (at ∙ ap (slice_get (e ∷ es)) n) refl (ltb-true p.0 v h)

insert_after : (e : ℕ × UserValue) (es : List (ℕ × UserValue)) (u : ℕ) (x : UserValue) → e.0 < u
    → insert_entry nat_cmp (e ∷ es) u x ≡ e ∷ insert_entry nat_cmp es u x
insert_after e es u x h = ap (λ o. match_ordering o ((u, x) ∷ e ∷ es) ((e.0, x) ∷ es) (e ∷ insert_entry nat_cmp es u x)) (sym (nat_cmp_is u e.0 Greater h))

-- a unit greater than all units of a list is inserted at its end
pub insert_last : (es : List (ℕ × UserValue)) (u : ℕ) (x : UserValue) → AreBelow u es → insert_entry nat_cmp es u x ≡ es ++ (u, x) ∷ []
insert_last [] u x b = refl
insert_last (e ∷ es) u x b = insert_after e es u x b.0 ∙ ap (λ l. e ∷ l) (insert_last es u x b.1)

above_more : (k : ℕ) (es : List (ℕ × UserValue)) (u : ℕ) (x : UserValue) → k < u → AreAbove k es → AreAbove k (es ++ (u, x) ∷ [])
above_more k [] u x h a = (h, tt)
above_more k (e ∷ es) u x h a = (a.0, above_more k es u x h a.1)

pub rises_more : (es : List (ℕ × UserValue)) (u : ℕ) (x : UserValue) → IsAscending es → AreBelow u es → IsAscending (es ++ (u, x) ∷ [])
rises_more [] u x r b = (tt, tt)
rises_more (e ∷ es) u x r b = (above_more e.0 es u x b.0 r.0, rises_more es u x r.1 b.1)

pub none_of : (es : List (ℕ × UserValue)) → length es ≡ 0 → es ≡ []
none_of [] h = refl
none_of (e ∷ es) h = absurd (omega (arith, h))

append_empty : {A : Type 0} (es : List A) → es ++ [] ≡ es
append_empty [] = refl
append_empty (e ∷ es) = ap (λ l. e ∷ l) (append_empty es)

pub pushed : (es ms : List (ℕ × UserValue)) (u : ℕ) (x : UserValue) → ms ≡ [] → AreBelow u es → (es ++ (u, x) ∷ []) ++ ms ≡ insert_entry nat_cmp (es ++ ms) u x
pushed es ms u x none b =
    ap (λ m. (es ++ (u, x) ∷ []) ++ m) none ∙ append_empty (es ++ (u, x) ∷ []) ∙ sym (insert_last es u x b)
    ∙ sym (ap (λ l. insert_entry nat_cmp l u x) (ap (λ m. es ++ m) none ∙ append_empty es))

pub put_mapped : (es ms : List (ℕ × UserValue)) (u : ℕ) (x : UserValue) → (es ≡ []) ⊎ (ms ≡ []) → (ms ≡ [] → ⊥)
    → es ++ insert_entry nat_cmp ms u x ≡ insert_entry nat_cmp (es ++ ms) u x
put_mapped es ms u x one some = elim one [
  | inl none ↦ ap (λ l. l ++ insert_entry nat_cmp ms u x) none ∙ sym (ap (λ l. insert_entry nat_cmp (l ++ ms) u x) none)
  | inr none ↦ absurd (some none)
]

-- the next of a list comes last
above_at : (k : ℕ) (es : List (ℕ × UserValue)) (i : ℕ) (p : ℕ × UserValue) → AreAbove k es → i < length es → p ≡ get_or es i p → k < p.0
above_at k [] i p a h is = absurd (omega (arith, h))
above_at k (e ∷ es) zero p a h is = (let same = ap (λ (r : ℕ × UserValue). r.0) is in let b = a.0 in omega (arith, same, b))
above_at k (e ∷ es) (suc i) p a h is = above_at k es i p a.1 (omega (arith, h)) is

pub insert_next : (es : List (ℕ × UserValue)) (i : ℕ) (p : ℕ × UserValue) → IsAscending es → i < length es → p ≡ get_or es i p
    → insert_entry nat_cmp (take i es) p.0 p.1 ≡ take (suc i) es
insert_next [] i p r h is = absurd (omega (arith, h))
insert_next (e ∷ es) zero p r h is = ap (λ q. q ∷ []) is
insert_next (e ∷ es) (suc i) p r h is =
    insert_after e (take i es) p.0 p.1 (above_at e.0 es i p r.0 (omega (arith, h)) is) ∙ ap (λ l. e ∷ l) (insert_next es i p r.1 (omega (arith, h)) is)

pub mapped_next : (es ys : List (ℕ × UserValue)) (p : ℕ × UserValue) (ms ns : List (ℕ × UserValue)) → IsAscending es → ms ≡ take (length ys) es
    → ns ≡ insert_entry nat_cmp ms p.0 p.1
    → length ys < length es → p ≡ get_or es (length ys) p → ns ≡ take (length (ys ++ p ∷ [])) es
mapped_next es ys p ms ns r before is h at =
    let n : suc (length ys) ≡ length (ys ++ p ∷ []) = (let l = length_push ys p in omega (arith, l)) in
    is ∙ ap (λ l. insert_entry nat_cmp l p.0 p.1) before ∙ insert_next es (length ys) p r h at ∙ ap (λ k. take k es) n

pub pushed_is : (es fs ms now : List (ℕ × UserValue)) (u : ℕ) (x : UserValue) → fs ≡ es ++ (u, x) ∷ [] → ms ≡ [] → AreBelow u es → es ++ ms ≡ now
    → fs ++ ms ≡ insert_entry nat_cmp now u x
pushed_is es fs ms now u x is none b view = ap (λ l. l ++ ms) is ∙ pushed es ms u x none b ∙ ap (λ l. insert_entry nat_cmp l u x) view

-- The lines of the symbols of a range.
use Rattle.kc_minimal.proofs.Common.{◌≡◌, ℕ, zero, suc, ◌+◌, Bool, true, false, cond, List, [], ◌∷◌, ◌++◌, Option, Some, None, filter, map, refl, sym, ◌∙◌, ap, arith, flat_map, filter_map, range_with_len, cons_option, filter-append, append-nil, map-append}
use Rattle.std.specs.Prelude.{option_to_list}
use Rattle.std.proofs.lemmas.Grind.{flat_map-append}
use Rattle.std.proofs.lemmas.List.Elements.{filter_map-append}

range_more : (n a : ℕ) → range_with_len a (suc n) ≡ range_with_len a n ++ (a + n) ∷ []
range_more zero a = ap (λ b. b ∷ []) (let e : a ≡ a + 0 = omega arith in e)
range_more (suc n) a =
    ap (λ l. a ∷ l) (range_more n (a + 1) ∙ ap (λ m. range_with_len (a + 1) n ++ m ∷ []) (let e : (a + 1) + n ≡ a + suc n = omega arith in e))

-- one number more
range_next : (n : ℕ) → range_with_len 0 (n + 1) ≡ range_with_len 0 n ++ n ∷ []
range_next n =
    let e : n + 1 ≡ suc n = omega arith in
    let z : 0 + n ≡ n = omega arith in
    ap (range_with_len 0) e ∙ range_more n 0 ∙ ap (λ m. range_with_len 0 n ++ m ∷ []) z

-- a text of the lines of those numbers below `n` that pass a test, with the line of `n` after it if it passes, is the text for
-- the numbers below `n + 1`
pub line_more : (p : ℕ → Bool) (f : ℕ → List ℕ) (n : ℕ) (text new : List ℕ) → text ≡ flat_map f (filter p (range_with_len 0 n))
    → new ≡ text ++ cond (p n) (f n) [] → new ≡ flat_map f (filter p (range_with_len 0 (n + 1)))
line_more p f n text new is more =
    more ∙ ap (λ t. t ++ cond (p n) (f n) []) is ∙ ap (λ l. flat_map f (filter p (range_with_len 0 n)) ++ l) (one (p n) refl)
    ∙ sym (flat_map-append f (filter p (range_with_len 0 n)) (filter p (n ∷ []))) ∙ ap (flat_map f) (sym (filter-append p (range_with_len 0 n) (n ∷ [])))
    ∙ ap (λ l. flat_map f (filter p l)) (sym (range_next n)) where
      one : (t : Bool) → p n ≡ t → cond (p n) (f n) [] ≡ flat_map f (filter p (n ∷ []))
      one true e = ap (λ t. cond t (f n) []) e ∙ sym (append-nil (f n)) ∙ ap (λ t. flat_map f (cond t (n ∷ []) [])) (sym e)
      one false e = ap (λ t. cond t (f n) []) e ∙ ap (λ t. flat_map f (cond t (n ∷ []) [])) (sym e)

-- what one number gives
one_given : {A : Type 0} (o : Option A) → option_to_list o ≡ cons_option o []
one_given None = refl
one_given (Some x) = refl

-- the list of what is found for some items, with what is found for one more after it, is the list for the items and this one
pub found_next : {A B C : Type 0} (t : B → C) (f : A → Option B) (xs : List A) (x : A) (found new : List C) → found ≡ map t (filter_map f xs)
    → new ≡ found ++ map t (option_to_list (f x)) → new ≡ map t (filter_map f (xs ++ x ∷ []))
found_next t f xs x found new is more =
    more ∙ ap (λ l. l ++ map t (option_to_list (f x))) is ∙ ap (λ l. map t (filter_map f xs) ++ map t l) (one_given (f x))
    ∙ sym (map-append t (filter_map f xs) (filter_map f (x ∷ []))) ∙ ap (map t) (sym (filter_map-append f xs (x ∷ [])))

-- the same for the numbers below `n` and the number `n`
pub found_more : {A B : Type 0} (t : A → B) (f : ℕ → Option A) (n : ℕ) (found new : List B) → found ≡ map t (filter_map f (range_with_len 0 n))
    → new ≡ found ++ map t (option_to_list (f n)) → new ≡ map t (filter_map f (range_with_len 0 (n + 1)))
found_more t f n found new is more = found_next t f (range_with_len 0 n) n found new is more ∙ ap (λ l. map t (filter_map f l)) (sym (range_next n))

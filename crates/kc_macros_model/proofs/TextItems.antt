-- A text and the items into which it is cut.
use Rattle.kc_macros_model.proofs.Common.{◌≡◌, ℕ, zero, suc, ◌≤◌, Bool, true, false, ◌&&◌, cond, List, [], ◌∷◌, ◌++◌, length, Option, Some, None, refl, sym, ap, ◌∙◌, subst, append_assoc, arith, length-append, ◌==◌, option_map, pred, take-append_seam, eqb-true, first_so, second_so, open_after}
use Rattle.kc_macros_model.proofs.Common.{inside_length, Item, byte, reference, unterminated, item_bytes, reference_of, items, begins_reference}

-- a text has a `)` after its first `n` bytes: it is those bytes, the `)`, and the rest
pub record IsInside (s : List ℕ) (n : ℕ) : Type 0 where
  pub inside : List ℕ
  pub rest : List ℕ
  pub whole : s ≡ inside ++ 41 ∷ rest
  pub place : length inside ≡ n

one_byte_more : (c : ℕ) (s : List ℕ) (found : Option ℕ) (n : ℕ) → ((m : ℕ) → found ≡ Some m → IsInside s m) → option_map suc found ≡ Some n → IsInside (c ∷ s) n
one_byte_more c s None n ih e = absurd (let z : ⊥ = cc in z)
one_byte_more c s (Some m) n ih e =
    let i = ih m refl in record { inside = c ∷ i.inside; rest = i.rest; whole = ap (λ x. c ∷ x) i.whole; place = let p : length i.inside ≡ m = i.place in cc }

pub inside_found : (open_count : ℕ) (s : List ℕ) (n : ℕ) → inside_length open_count s ≡ Some n → IsInside s n
inside_found open_count [] n e = absurd (let z : ⊥ = cc in z)
inside_found open_count (c ∷ s) n e = by_test (λ m h. inside_found (open_after c open_count) s m h) (c == 41 && (open_count == 0)) refl e
  where
    by_test : ((m : ℕ) → inside_length (open_after c open_count) s ≡ Some m → IsInside s m) → (b : Bool) → (c == 41 && (open_count == 0)) ≡ b
        → cond b (Some 0) (option_map suc (inside_length (open_after c open_count) s)) ≡ Some n → IsInside (c ∷ s) n
    by_test ih true t e =
        let p : c ≡ 41 = eqb-true c 41 (first_so (c == 41) (open_count == 0) t) in
        record { inside = []; rest = s; whole = ap (λ x. x ∷ s) p; place = let z : 0 ≡ n = cc in z }
    by_test ih false t e = one_byte_more c s (inside_length (open_after c open_count) s) n ih e

pub items_passed : (q : Bool) (xs ys : List ℕ) → items q (length xs) (xs ++ ys) ≡ items q 0 ys
items_passed q [] ys = refl
items_passed q (x ∷ xs) ys = items_passed q xs ys

-- the items of a text that doesn't begin with `$(` are its first byte and the items of the rest
pub items_of_byte : (c : ℕ) (s : List ℕ) → begins_reference (c ∷ s) ≡ false → items false 0 (c ∷ s) ≡ byte c ∷ items false 0 s
items_of_byte c [] e = refl
items_of_byte c (d ∷ s) e = ap (λ b. let i = cond b (reference_of s (inside_length 0 s)) (byte c) in i ∷ items false (pred (length (item_bytes i))) (d ∷ s)) e

-- the items of a text that begins with a macro reference are the reference and the items of the text after it
pub items_of_reference : (q : Bool) (inside s : List ℕ) → inside_length 0 (inside ++ 41 ∷ s) ≡ Some (length inside)
    → items q 0 (36 ∷ 40 ∷ (inside ++ 41 ∷ s)) ≡ reference inside ∷ items q 0 s
items_of_reference q inside s e =
    ap (λ r. let i = reference_of (inside ++ 41 ∷ s) r in i ∷ items q (pred (length (item_bytes i))) (40 ∷ (inside ++ 41 ∷ s))) e
    ∙ ap (λ x. reference x ∷ items q (suc (length (x ++ 41 ∷ []))) (40 ∷ (inside ++ 41 ∷ s))) (take-append_seam inside (41 ∷ s))
    ∙ ap (λ x. reference inside ∷ items q (length (inside ++ 41 ∷ [])) x) (sym (append_assoc inside (41 ∷ []) s))
    ∙ ap (λ x. reference inside ∷ x) (items_passed q (inside ++ 41 ∷ []) s)

-- a text outside quotes is a row of these items: bytes, macro references, and perhaps a last unterminated `$(`
pub data IsRow : List ℕ → List Item → Type 0 where
  no_items : IsRow [] []
  then_byte : {c : ℕ} {s : List ℕ} {is : List Item} → begins_reference (c ∷ s) ≡ false → IsRow s is → IsRow (c ∷ s) (byte c ∷ is)
  then_reference : {inside s : List ℕ} {is : List Item} → inside_length 0 (inside ++ 41 ∷ s) ≡ Some (length inside) → IsRow s is
      → IsRow (36 ∷ 40 ∷ (inside ++ 41 ∷ s)) (reference inside ∷ is)
  then_unterminated : {s : List ℕ} {is : List Item} → IsRow (36 ∷ 40 ∷ s) (unterminated s ∷ is)

-- texts of at most this length are rows of their items
abbrev ShortRows : ℕ → Type 0
ShortRows n = (s : List ℕ) → length s ≤ n → IsRow s (items false 0 s)

row_of_reference : (n : ℕ) (s : List ℕ) → ShortRows n → length s ≤ n → (found : Option ℕ) → inside_length 0 s ≡ found
    → IsRow (36 ∷ 40 ∷ s) (items false 0 (36 ∷ 40 ∷ s))
row_of_reference n s ih h None e =
    subst (λ r. IsRow (36 ∷ 40 ∷ s) (let i = reference_of s r in i ∷ items false (pred (length (item_bytes i))) (40 ∷ s))) (sym e) then_unterminated
row_of_reference n s ih h (Some k) e =
    let i = inside_found 0 s k e in
    let ends : inside_length 0 (i.inside ++ 41 ∷ i.rest) ≡ Some (length i.inside) = ap (inside_length 0) (sym i.whole) ∙ e ∙ ap Some (sym i.place) in
    let short : length i.rest ≤ n = omega (arith, h, ap length i.whole, length-append i.inside (41 ∷ i.rest)) in
    let row : IsRow (36 ∷ 40 ∷ (i.inside ++ 41 ∷ i.rest)) (items false 0 (36 ∷ 40 ∷ (i.inside ++ 41 ∷ i.rest))) =
    subst (λ is. IsRow (36 ∷ 40 ∷ (i.inside ++ 41 ∷ i.rest)) is) (sym (items_of_reference false i.inside i.rest ends))
    (then_reference ends (ih i.rest short)) in
    subst (λ x. IsRow (36 ∷ 40 ∷ x) (items false 0 (36 ∷ 40 ∷ x))) (sym i.whole) row

row_by_front : (n c : ℕ) (s : List ℕ) → ShortRows n → length s ≤ n → (b : Bool) → begins_reference (c ∷ s) ≡ b → IsRow (c ∷ s) (items false 0 (c ∷ s))
row_by_front n c s ih h false e = subst (λ is. IsRow (c ∷ s) is) (sym (items_of_byte c s e)) (then_byte e (ih s h))
row_by_front n c [] ih h true e = absurd (let z : ⊥ = cc in z)
row_by_front n c (d ∷ s) ih h true e =
    let dollar : 36 ≡ c = sym (eqb-true c 36 (first_so (c == 36) (d == 40) e)) in
    let paren : 40 ≡ d = sym (eqb-true d 40 (second_so (c == 36) (d == 40) e)) in
    let short : length s ≤ n = omega (arith, h) in
    subst (λ x. IsRow (x ∷ d ∷ s) (items false 0 (x ∷ d ∷ s))) dollar
    (subst (λ y. IsRow (36 ∷ y ∷ s) (items false 0 (36 ∷ y ∷ s))) paren (row_of_reference n s ih short (inside_length 0 s) refl))

short_rows : (n : ℕ) → ShortRows n
short_rows n [] h = no_items
short_rows zero (c ∷ s) h = absurd (omega (arith, h))
short_rows (suc n) (c ∷ s) h = row_by_front n c s (short_rows n) (omega (arith, h)) (begins_reference (c ∷ s)) refl

pub is_row : (s : List ℕ) → IsRow s (items false 0 s)
is_row s = short_rows (length s) s (omega arith)

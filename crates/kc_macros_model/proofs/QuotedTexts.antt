-- Bytes between quotes in which nothing is left to expand.
use Rattle.kc_macros_model.proofs.Common.{◌≡◌, ℕ, zero, suc, ◌+◌, ◌<◌, ◌≤◌, Bool, true, false, ◌&&◌, ◌||◌, cond, List, [], ◌∷◌, ◌++◌, length, take, Option, Some, None, refl, sym, ap, ◌∙◌, subst, append_assoc, zero-add, arith, length-append, suc-add, take-append_seam, ◌==◌, ◌-◌, pred, option_map}
use Rattle.kc_macros_model.proofs.Common.{first_so, second_so, eqb-true, Place, returns, ◌>>=◌, open_after, inside_length, Item, byte, escaped, reference, item_bytes, reference_of, first_item, items, Value, Bindings, extent, escaped_text, WrittenQuotedText, quoted_text_of, quoted_text_of_value, joined_quoted_texts}
use Rattle.kc_macros_model.proofs.Common.{written_item, written_items, World, returned, ending_in}
use Rattle.kc_macros_model.specs.Expansion.{text_value}
use Rattle.kc_macros_model.proofs.CleanTexts.{neither_first, neither_second}
use Rattle.kc_macros_model.proofs.ExpansionByRules.{split_return, same_return}
use Rattle.kc_macros_model.proofs.PlainTokens.{ArePlainItems, plain_none, plain_byte, plain_escaped, and_false}
use Rattle.kc_macros_model.proofs.TextItems.{IsInside as IsReferenceInside, inside_found, items_of_reference}

-- each `$`, backslash and quote `q` in the bytes follows a backslash
pub data IsQuotedText (q : ℕ) : List ℕ → Type 0 where
  body_none : IsQuotedText q []
  body_byte : {c : ℕ} {s : List ℕ} → (c == q) ≡ false → (c == 92) ≡ false → (c == 36) ≡ false → IsQuotedText q s → IsQuotedText q (c ∷ s)
  body_pair : {c : ℕ} {s : List ℕ} → IsQuotedText q s → IsQuotedText q (92 ∷ c ∷ s)

body_append : {q : ℕ} {x y : List ℕ} → IsQuotedText q x → IsQuotedText q y → IsQuotedText q (x ++ y)
body_append body_none h = h
body_append (body_byte a b c r) h = body_byte a b c (body_append r h)
body_append (body_pair r) h = body_pair (body_append r h)

pub escaped_is_quoted_text : (q : ℕ) (s : List ℕ) → IsQuotedText q (escaped_text q s)
escaped_is_quoted_text q [] = body_none
escaped_is_quoted_text q (c ∷ s) = by_test (escaped_is_quoted_text q s) (c == 92 || (c == 36) || (c == q)) refl
  where
    by_test : IsQuotedText q (escaped_text q s) → (b : Bool) → (c == 92 || (c == 36) || (c == q)) ≡ b
        → IsQuotedText q (cond b (92 ∷ c ∷ []) (c ∷ []) ++ escaped_text q s)
    by_test ih true e = body_pair ih
    by_test ih false e =
        let l : (c == 92 || (c == 36)) ≡ false = neither_first (c == 92 || (c == 36)) (c == q) e in
        body_byte (neither_second (c == 92 || (c == 36)) (c == q) e) (neither_first (c == 92) (c == 36) l) (neither_second (c == 92) (c == 36) l) ih

-- a byte that is no `$`, and between quotes no backslash, is an item of its own
pub byte_first : (q : Bool) (c : ℕ) (s : List ℕ) → (c == 36) ≡ false → (q && (c == 92)) ≡ false → first_item q c s ≡ byte c
byte_first q c [] e f = refl
byte_first q c (d ∷ s) e f = ap (λ x. cond x (reference_of s (inside_length 0 s)) (cond (q && (c == 92)) (escaped d) (byte c)))
    (and_false (c == 36) (d == 40) e) ∙ ap (λ x. cond x (escaped d) (byte c)) f

byte_items : (c : ℕ) (s : List ℕ) → (c == 36) ≡ false → (c == 92) ≡ false → items true 0 (c ∷ s) ≡ byte c ∷ items true 0 s
byte_items c s e f = ap (λ i. i ∷ items true (pred (length (item_bytes i))) s) (byte_first true c s e f)

-- the items of bytes in which each `$`, backslash and quote follows a backslash are only bytes and backslashes with a byte
pub body_items : {q : ℕ} {s : List ℕ} → IsQuotedText q s → ArePlainItems s (items true 0 s)
body_items body_none = plain_none
body_items (body_byte {c = c} {s = s} a b e r) = subst (λ is. ArePlainItems (c ∷ s) is) (sym (byte_items c s e b)) (plain_byte e (body_items r))
body_items (body_pair r) = plain_escaped refl (body_items r)

-- bytes in which each `$`, backslash and quote follows a backslash reach up to the quote after them
pub body_extent : (q : ℕ) → (q == q) ≡ true → (92 == q) ≡ false → {s : List ℕ} → IsQuotedText q s → (y : List ℕ)
    → extent true (λ d. d == q) 0 (s ++ q ∷ y) ≡ length s
body_extent q same other body_none y = ap (λ b. cond b 0 (suc (extent true (λ d. d == q) (pred (length (item_bytes (first_item true q y)))) y))) same
body_extent q same other (body_byte {c = c} {s = s} a b e r) y =
    ap (λ x. cond x 0 (suc (extent true (λ d. d == q) (pred (length (item_bytes (first_item true c (s ++ q ∷ y))))) (s ++ q ∷ y)))) a
    ∙ ap (λ i. suc (extent true (λ d. d == q) (pred (length (item_bytes i))) (s ++ q ∷ y))) (byte_first true c (s ++ q ∷ y) e b)
    ∙ ap suc (body_extent q same other r y)
body_extent q same other (body_pair {c = c} {s = s} r) y =
    ap (λ x. cond x 0 (suc (suc (extent true (λ d. d == q) 0 (s ++ q ∷ y))))) other ∙ ap (λ n. suc (suc n)) (body_extent q same other r y)

-- bytes between two quotes `q` have these items, none of which is the quote, a lone backslash or an unterminated `$(`
pub data IsQuotedInside (q : ℕ) : List ℕ → List Item → Type 0 where
  inside_none : IsQuotedInside q [] []
  inside_byte : {c : ℕ} {s : List ℕ} {is : List Item} → (c == q) ≡ false → (c == 92) ≡ false → IsQuotedInside q s is → IsQuotedInside q (c ∷ s) (byte c ∷ is)
  inside_pair : {c : ℕ} {s : List ℕ} {is : List Item} → IsQuotedInside q s is → IsQuotedInside q (92 ∷ c ∷ s) (escaped c ∷ is)
  inside_reference : {inside s : List ℕ} {is : List Item} → IsQuotedInside q s is → IsQuotedInside q (36 ∷ 40 ∷ (inside ++ 41 ∷ s)) (reference inside ∷ is)

module _ (w : World) (at : Place) (b : Bindings) where
  value_body : (q : ℕ) (v : Value) → IsQuotedText q (quoted_text_of_value q v).bytes
  value_body q None = body_none
  value_body q (Some text) = escaped_is_quoted_text q text

  byte_body : (q c : ℕ) → (c == q) ≡ false → (c == 92) ≡ false → (x : Bool) → (c == 36) ≡ x → IsQuotedText q (cond x (92 ∷ c ∷ []) (c ∷ []))
  byte_body q c e f true h = body_pair body_none
  byte_body q c e f false h = body_byte e f h body_none

  -- in the written bytes of the items between quotes each `$`, backslash and quote follows a backslash
  pub inside_written : (q : ℕ) {s : List ℕ} {is : List Item} → IsQuotedInside q s is → (x : WrittenQuotedText) → ending_in w (written_items at b q is) ≡ returned x
      → IsQuotedText q x.bytes
  inside_written q inside_none x e = subst (λ (z : WrittenQuotedText). IsQuotedText q z.bytes) (same_return (quoted_text_of [] []) x e) body_none
  inside_written q (inside_byte {c = c} {is = is} h k r) x e =
      let (y, ey, e2) = split_return w (written_items at b q is) (λ rest. returns
      (joined_quoted_texts (quoted_text_of (cond (c == 36) (92 ∷ c ∷ []) (c ∷ [])) (c ∷ [])) rest)) x e in
      subst (λ (z : WrittenQuotedText). IsQuotedText q z.bytes) (same_return (joined_quoted_texts (quoted_text_of (cond (c == 36) (92 ∷ c ∷ []) (c ∷ [])) (c ∷ [])) y) x e2)
      (body_append (byte_body q c h k (c == 36) refl) (inside_written q r y ey))
  inside_written q (inside_pair {c = c} {is = is} r) x e =
      let (y, ey, e2) = split_return w (written_items at b q is) (λ rest. returns (joined_quoted_texts (quoted_text_of (92 ∷ c ∷ []) (c ∷ [])) rest)) x e in
      subst (λ (z : WrittenQuotedText). IsQuotedText q z.bytes) (same_return (joined_quoted_texts (quoted_text_of (92 ∷ c ∷ []) (c ∷ [])) y) x e2)
      (body_pair (inside_written q r y ey))
  inside_written q (inside_reference {inside = inside} {is = is} r) x e =
      let (u, eu, e1) = split_return w (written_item at b q (reference inside))
      (λ first. written_items at b q is >>= λ rest. returns (joined_quoted_texts first rest)) x e in
      let (y, ey, e2) = split_return w (written_items at b q is) (λ rest. returns (joined_quoted_texts u rest)) x e1 in
      let (v, ev, e3) = split_return w (text_value at b (item_bytes (reference inside))) (λ v. returns (quoted_text_of_value q v)) u eu in
      let first : IsQuotedText q u.bytes = subst (λ (z : WrittenQuotedText). IsQuotedText q z.bytes) (same_return (quoted_text_of_value q v) u e3) (value_body q v) in
      subst (λ (z : WrittenQuotedText). IsQuotedText q z.bytes) (same_return (joined_quoted_texts u y) x e2) (body_append first (inside_written q r y ey))

no_zero : (r : Option ℕ) → option_map suc r ≡ Some 0 → ⊥
no_zero None e = cc
no_zero (Some n) e = let h : suc n ≡ 0 = cc in omega (arith, h)

one_less : (r : Option ℕ) (n : ℕ) → option_map suc r ≡ Some (suc n) → r ≡ Some n
one_less None n e = let z : ⊥ = cc in absurd z
one_less (Some m) n e = cc

-- a reference is closed by what comes before its end alone
inside_before : (n : ℕ) (inside s r : List ℕ) → inside_length n (inside ++ 41 ∷ s) ≡ Some (length inside)
    → inside_length n (inside ++ 41 ∷ r) ≡ Some (length inside)
inside_before n [] s r e = by_test (n == 0) e
  where
    by_test : (x : Bool) → cond x (Some 0) (option_map suc (inside_length (n - 1) s)) ≡ Some 0 → cond x (Some 0) (option_map suc (inside_length (n - 1) r))
        ≡ Some 0
    by_test true e = refl
    by_test false e = absurd (no_zero (inside_length (n - 1) s) e)
inside_before n (c ∷ inside) s r e = by_test (inside_before (open_after c n) inside s r) (c == 41 && (n == 0)) e
  where
    by_test : (inside_length (open_after c n) (inside ++ 41 ∷ s) ≡ Some (length inside) → inside_length (open_after c n) (inside ++ 41 ∷ r)
        ≡ Some (length inside)) → (x : Bool)
        → cond x (Some 0) (option_map suc (inside_length (open_after c n) (inside ++ 41 ∷ s))) ≡ Some (suc (length inside))
        → cond x (Some 0) (option_map suc (inside_length (open_after c n) (inside ++ 41 ∷ r))) ≡ Some (suc (length inside))
    by_test ih true e = let z : ⊥ = cc in absurd z
    by_test ih false e = ap (option_map suc) (ih (one_less (inside_length (open_after c n) (inside ++ 41 ∷ s)) (length inside) e))

take_past : (xs ys : List ℕ) (m : ℕ) → take (length xs + m) (xs ++ ys) ≡ xs ++ take m ys
take_past [] ys m = ap (λ n. take n ys) (zero-add m)
take_past (c ∷ xs) ys m = ap (λ n. take n (c ∷ (xs ++ ys))) (suc-add (length xs) m) ∙ ap (λ x. c ∷ x) (take_past xs ys m)

module _ (q : ℕ) where
  abbrev ends : ℕ → Bool
  ends d = d == q

  extent_past : (xs ys : List ℕ) → extent true ends (length xs) (xs ++ ys) ≡ length xs + extent true ends 0 ys
  extent_past [] ys = sym (zero-add (extent true ends 0 ys))
  extent_past (c ∷ xs) ys = ap suc (extent_past xs ys) ∙ sym (suc-add (length xs) (extent true ends 0 ys))

  extent_all : (s : List ℕ) → extent true ends (length s) s ≡ length s
  extent_all [] = refl
  extent_all (c ∷ s) = ap suc (extent_all s)

  -- the first `r` bytes of a longer text are bytes between quotes
  abbrev IsReached : ℕ → List ℕ → Type 0
  IsReached r s = r < length s → IsQuotedInside q (take r s) (items true 0 (take r s))

  abbrev UpToQuote : List ℕ → Type 0
  UpToQuote s = IsReached (extent true ends 0 s) s

  pair_reached : (d : ℕ) (s : List ℕ) → UpToQuote s → IsReached (suc (suc (extent true ends 0 s))) (92 ∷ d ∷ s)
  pair_reached d s h lt = inside_pair (h (omega (arith, lt)))

  near_items : (c d m : ℕ) (s : List ℕ) → (c == 36 && (d == 40)) ≡ false → (c == 92) ≡ false → items true 0 (c ∷ take m (d ∷ s))
      ≡ byte c ∷ items true 0 (take m (d ∷ s))
  near_items c d zero s e1 e2 = refl
  near_items c d (suc m) s e1 e2 =
      ap (λ x. let i = cond x (reference_of (take m s) (inside_length 0 (take m s))) (cond (c == 92) (escaped d) (byte c)) in
      i ∷ items true (pred (length (item_bytes i))) (d ∷ take m s)) e1
      ∙ ap (λ x. let i = cond x (escaped d) (byte c) in i ∷ items true (pred (length (item_bytes i))) (d ∷ take m s)) e2

  byte_reached : (c d : ℕ) (s : List ℕ) → (c == 36 && (d == 40)) ≡ false → (c == 92) ≡ false → (c == q) ≡ false → UpToQuote (d ∷ s)
      → IsReached (suc (extent true ends 0 (d ∷ s))) (c ∷ d ∷ s)
  byte_reached c d s e1 e2 e3 h lt =
      let m = extent true ends 0 (d ∷ s) in
      subst (λ is. IsQuotedInside q (c ∷ take m (d ∷ s)) is) (sym (near_items c d m s e1 e2)) (inside_byte e3 e2 (h (omega (arith, lt))))

  reference_reached : (inside rest : List ℕ) → inside_length 0 (inside ++ 41 ∷ rest) ≡ Some (length inside) → UpToQuote rest
      → IsReached (suc (suc (extent true ends (length (inside ++ 41 ∷ [])) (inside ++ 41 ∷ rest)))) (36 ∷ 40 ∷ (inside ++ 41 ∷ rest))
  reference_reached inside rest e h lt =
      let x = inside ++ 41 ∷ [] in
      let m = extent true ends 0 rest in
      let join : (ys : List ℕ) → x ++ ys ≡ inside ++ 41 ∷ ys = λ ys. append_assoc inside (41 ∷ []) ys in
      let far : extent true ends (length x) (inside ++ 41 ∷ rest) ≡ length x + m = ap (λ s. extent true ends (length x) s) (sym (join rest))
      ∙ extent_past x rest in
      let taken : take (extent true ends (length x) (inside ++ 41 ∷ rest)) (inside ++ 41 ∷ rest) ≡ inside ++ 41 ∷ take m rest =
      ap (λ n. take n (inside ++ 41 ∷ rest)) far ∙ ap (λ s. take (length x + m) s) (sym (join rest)) ∙ take_past x rest m ∙ join (take m rest) in
      let less : m < length rest = omega (arith, lt, far, ap length (join rest), length-append x rest) in
      let it = items_of_reference true inside (take m rest) (inside_before 0 inside rest (take m rest) e) in
      subst (λ s. IsQuotedInside q (36 ∷ 40 ∷ s) (items true 0 (36 ∷ 40 ∷ s))) (sym taken)
      (subst (λ is. IsQuotedInside q (36 ∷ 40 ∷ (inside ++ 41 ∷ take m rest)) is) (sym it) (inside_reference (h less)))

  closing_reached : (n : ℕ) (s : List ℕ) → ((r : List ℕ) → length r ≤ n → UpToQuote r) → length s ≤ n → (k : Option ℕ) → inside_length 0 s ≡ k
      → IsReached (suc (extent true ends (pred (length (item_bytes (reference_of s k)))) (40 ∷ s))) (36 ∷ 40 ∷ s)
  closing_reached n s ih h None e = λ lt. absurd (omega (arith, lt, extent_all s))
  closing_reached n s ih h (Some k) e =
      let c : IsReferenceInside s k = inside_found 0 s k e in
      let p : inside_length 0 (c.inside ++ 41 ∷ c.rest) ≡ Some (length c.inside) = ap (inside_length 0) (sym c.whole) ∙ e ∙ ap Some (sym c.place) in
      let le : length c.rest ≤ n = omega (arith, h, ap length c.whole, length-append c.inside (41 ∷ c.rest)) in
      let front : take k s ≡ c.inside = ap (λ m. take m s) (sym c.place) ∙ ap (take (length c.inside)) c.whole ∙ take-append_seam c.inside (41 ∷ c.rest) in
      subst (λ y. IsReached (suc (suc (extent true ends (length (y ++ 41 ∷ [])) s))) (36 ∷ 40 ∷ s)) (sym front)
      (subst (λ y. IsReached (suc (suc (extent true ends (length (c.inside ++ 41 ∷ [])) y))) (36 ∷ 40 ∷ y)) (sym c.whole)
      (reference_reached c.inside c.rest p (ih c.rest le)))

  two_reached : (n c d : ℕ) (s : List ℕ) → ((r : List ℕ) → length r ≤ n → UpToQuote r) → length (d ∷ s) ≤ n → (c == q) ≡ false → (x y : Bool)
      → (c == 36 && (d == 40)) ≡ x → (c == 92) ≡ y
      → IsReached (suc (extent true ends (pred (length (item_bytes (cond x (reference_of s (inside_length 0 s)) (cond y (escaped d) (byte c)))))) (d ∷ s)))
      (c ∷ d ∷ s)
  two_reached n c d s ih h e3 true y e1 e2 =
      let p : 36 ≡ c = sym (eqb-true c 36 (first_so (c == 36) (d == 40) e1)) in
      let r : 40 ≡ d = sym (eqb-true d 40 (second_so (c == 36) (d == 40) e1)) in
      let le : length s ≤ n = omega (arith, h) in
      subst (λ z. IsReached (suc (extent true ends (pred (length (item_bytes (reference_of s (inside_length 0 s))))) (d ∷ s))) (z ∷ d ∷ s)) p
      (subst (λ z. IsReached (suc (extent true ends (pred (length (item_bytes (reference_of s (inside_length 0 s))))) (z ∷ s))) (36 ∷ z ∷ s)) r
      (closing_reached n s ih le (inside_length 0 s) refl))
  two_reached n c d s ih h e3 false true e1 e2 =
      let p : 92 ≡ c = sym (eqb-true c 92 e2) in
      subst (λ z. IsReached (suc (suc (extent true ends 0 s))) (z ∷ d ∷ s)) p (pair_reached d s (ih s (omega (arith, h))))
  two_reached n c d s ih h e3 false false e1 e2 = byte_reached c d s e1 e2 e3 (ih (d ∷ s) h)

  reached_within : (n : ℕ) (s : List ℕ) → length s ≤ n → UpToQuote s
  reached_within n [] h = λ lt. absurd (omega (arith, lt))
  reached_within zero (c ∷ s) h = absurd (omega (arith, h))
  reached_within (suc n) (c ∷ s) h = by_end s (reached_within n) (omega (arith, h)) (c == q) refl
    where
      by_end : (s : List ℕ) → ((r : List ℕ) → length r ≤ n → UpToQuote r) → length s ≤ n → (b : Bool) → (c == q) ≡ b
          → IsReached (cond b 0 (suc (extent true ends (pred (length (item_bytes (first_item true c s)))) s))) (c ∷ s)
      by_end s ih h true e = λ lt. inside_none
      by_end [] ih h false e = λ lt. absurd (omega (arith, lt))
      by_end (d ∷ s) ih h false e = two_reached n c d s ih h e (c == 36 && (d == 40)) (c == 92) refl refl

  -- the bytes before the next quote are bytes between quotes: no item of them is the quote, a lone backslash or unterminated
  pub up_to_quote : (s : List ℕ) → extent true (λ d. d == q) 0 s < length s → IsQuotedInside q (take (extent true (λ d. d == q) 0 s) s)
      (items true 0 (take (extent true (λ d. d == q) 0 s) s))
  up_to_quote s lt = reached_within (length s) s (omega arith) lt

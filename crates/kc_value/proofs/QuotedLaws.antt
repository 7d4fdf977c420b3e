-- Quoted spellings, and the texts between quotes.
use Rattle.std.proofs.Common.{length-drop, get_or-drop}
use Rattle.kc_value.proofs.Common.{◌≡◌, ℕ, suc, ◌+◌, ◌≤◌, ◌<◌, Bool, true, false, ◌||◌, cond, eqb, ◌-◌, drop, take, get_or, length-append, List, [], ◌∷◌, ◌++◌, length, Option, Some, None, refl, ap, sym, ◌∙◌, subst, arith, option_map, flat_map, eqb-true, eq-eqb, take-append_seam, take-length, IsUtf8}
use Rattle.kc_value.proofs.Common.{escaped_byte, quoted, IsBetweenQuotes, none, plain, pair, IsQuoted, closing, unescaped}
use Rattle.std.proofs.lemmas.Bool.{or_parts}
use Rattle.std.proofs.lemmas.List.{append_cancel_right}
use Rattle.std.proofs.lemmas.Str.{IsCharBoundary-after_ascii, IsCharBoundary-before_ascii}
use Rattle.std.specs.Prelude.{IsCharBoundary}
use Rattle.kc_value.specs.checker.TextsInQuotes.{HasQuotes}

body_at : (b : Bool) (c : ℕ) (bs cs : List ℕ) → (eqb c 34 || eqb c 92) ≡ b → IsBetweenQuotes 34 bs cs → IsBetweenQuotes 34 (cond b (92 ∷ c ∷ []) (c ∷ []) ++ bs) (c ∷ cs)
body_at true c bs cs e h = pair h
body_at false c bs cs e h = let (q, s) = or_parts (eqb c 34) (eqb c 92) e in plain q s h

escapes_body : (text : List ℕ) → IsBetweenQuotes 34 (flat_map escaped_byte text) text
escapes_body [] = none
escapes_body (c ∷ cs) = body_at (eqb c 34 || eqb c 92) c (flat_map escaped_byte cs) cs refl (escapes_body cs)

-- the quoted spelling of a text represents that text
pub spelled : (text : List ℕ) → IsQuoted (quoted text) text
spelled text = (flat_map escaped_byte text, refl, escapes_body text)

-- the text that a body between quotes represents is the one that `unescaped` gives
pub body_means : (quote : ℕ) (body means : List ℕ) → IsBetweenQuotes quote body means → unescaped false body ≡ means
body_means quote body means none = refl
body_means quote body means (plain {c = c} {bs = bs} {cs = cs} q s h) = rw s (ap (λ t. c ∷ t) (body_means quote bs cs h))
body_means quote body means (pair {c = c} {bs = bs} {cs = cs} h) = ap (λ t. c ∷ t) (body_means quote bs cs h)

same_tail : (c d : ℕ) (xs ys : List ℕ) → c ∷ xs ≡ d ∷ ys → xs ≡ ys
same_tail c d xs ys e = cc

-- no quoted text represents two texts
pub one_meaning : (whole a b : List ℕ) → IsQuoted whole a → IsQuoted whole b → a ≡ b
one_meaning whole a b (x, p, h) (y, q, k) =
    let e : x ≡ y = append_cancel_right x y (34 ∷ []) (same_tail 34 34 (x ++ 34 ∷ []) (y ++ 34 ∷ []) (sym p ∙ q)) in
    sym (body_means 34 x a h) ∙ ap (unescaped false) e ∙ body_means 34 y b k

-- a body between quotes is closed by the quote directly after it
pub body_closes : (quote : ℕ) (body means rest : List ℕ) → eqb 92 quote ≡ false → IsBetweenQuotes quote body means
    → closing quote false (body ++ quote ∷ rest) ≡ Some (suc (length body))
body_closes quote body means rest d none = let same : eqb quote quote ≡ true = eq-eqb quote quote refl in rw same refl
body_closes quote body means rest d (plain {c = c} {bs = bs} {cs = cs} q s h) = rw (q, s) (ap (option_map suc) (body_closes quote bs cs rest d h))
body_closes quote body means rest d (pair {c = c} {bs = bs} {cs = cs} h) = rw d (ap (λ o. option_map suc (option_map suc o)) (body_closes quote bs cs rest d h))

-- a body with a backslash in front if the flag is true, else as it is
abbrev pub with_backslash_if : Bool → List ℕ → List ℕ
with_backslash_if true body = 92 ∷ body
with_backslash_if false body = body

pub record IsClosed (quote : ℕ) (escaped : Bool) (bytes : List ℕ) (n : ℕ) : Type 0 where
  pub body : List ℕ
  pub rest : List ℕ
  pub parts : bytes ≡ body ++ quote ∷ rest
  pub len : n ≡ suc (length body)
  pub is_between_quotes : IsBetweenQuotes quote (with_backslash_if escaped body) (unescaped escaped body)

one_more : (o : Option ℕ) (n : ℕ) → option_map suc o ≡ Some n → (m : ℕ) × (o ≡ Some m) × (n ≡ suc m)
one_more None n e = cc
one_more (Some m) n e = (m, refl, cc)

closed_plain : (t : Bool) (quote c : ℕ) (cs : List ℕ) (n m : ℕ) → eqb c quote ≡ false → eqb c 92 ≡ t → n ≡ suc m → IsClosed quote t cs m
    → IsClosed quote false (c ∷ cs) n
closed_plain true quote c cs n m q s e h = record {
  body = c ∷ h.body;
  rest = h.rest;
  parts = ap (λ t. c ∷ t) h.parts;
  len = e ∙ ap suc h.len;
  is_between_quotes = let k : 92 ≡ c = sym (eqb-true c 92 s) in rw s (subst (λ d. IsBetweenQuotes quote (d ∷ h.body) (unescaped true h.body)) k h.is_between_quotes);
}
closed_plain false quote c cs n m q s e h = record {
  body = c ∷ h.body;
  rest = h.rest;
  parts = ap (λ t. c ∷ t) h.parts;
  len = e ∙ ap suc h.len;
  is_between_quotes = rw s (plain q s h.is_between_quotes);
}

first_one : (n : ℕ) → Some 1 ≡ Some n → n ≡ 1
first_one n e = cc

closed_at : (b : Bool) (quote c : ℕ) (cs : List ℕ) (n : ℕ) → ((m : ℕ) → closing quote (eqb c 92) cs ≡ Some m → IsClosed quote (eqb c 92) cs m) → eqb c quote ≡ b
    → cond b (Some 1) (option_map suc (closing quote (eqb c 92) cs)) ≡ Some n → IsClosed quote false (c ∷ cs) n
closed_at true quote c cs n ih e g = record { body = []; rest = cs; parts = ap (λ d. d ∷ cs) (eqb-true c quote e); len = first_one n g; is_between_quotes = none }
closed_at false quote c cs n ih e g =
    let (m, k, f) = one_more (closing quote (eqb c 92) cs) n g in
    closed_plain (eqb c 92) quote c cs n m e refl f (ih m k)

-- the bytes before a closing quote are a body, with a backslash put in front of it if one came before the bytes
pub closed : (quote : ℕ) (escaped : Bool) (bytes : List ℕ) (n : ℕ) → closing quote escaped bytes ≡ Some n → IsClosed quote escaped bytes n
closed quote true [] n h = cc
closed quote false [] n h = cc
closed quote true (c ∷ cs) n h =
    let (m, k, e) = one_more (closing quote false cs) n h in
    let i = closed quote false cs m k in
    record { body = c ∷ i.body; rest = i.rest; parts = ap (λ t. c ∷ t) i.parts; len = e ∙ ap suc i.len; is_between_quotes = pair i.is_between_quotes }
closed quote false (c ∷ cs) n h = closed_at (eqb c quote) quote c cs n (λ m k. closed quote (eqb c 92) cs m k) refl h

opened : (text : List ℕ) → get_or text 0 0 ≡ 34 → text ≡ 34 ∷ drop 1 text
opened [] e = absurd (omega (arith, e))
opened (c ∷ cs) e = ap (λ d. d ∷ cs) e

-- a text whose first byte is no `"` is no quoted text
pub not_opened : (text means : List ℕ) → (get_or text 0 0 ≡ 34 → ⊥) → IsQuoted text means → ⊥
not_opened text means n (x, p, h) = n (ap (λ t. get_or t 0 0) p)

pub not_empty : (text means : List ℕ) → length text ≡ 0 → IsQuoted text means → ⊥
not_empty text means n (x, p, h) = omega (arith, ap length p, n)

closes_last : (text means : List ℕ) → IsQuoted text means → closing 34 false (drop 1 text) ≡ Some (length text - 1)
closes_last text means (x, p, h) =
    ap (λ t. closing 34 false (drop 1 t)) p ∙ body_closes 34 x means [] refl h ∙ ap Some (omega (arith, ap length p, length-append x (34 ∷ [])))

-- a text without a closing quote is no quoted text
pub not_closed : (text means : List ℕ) → closing 34 false (drop 1 text) ≡ None → IsQuoted text means → ⊥
not_closed text means n q = let e = closes_last text means q in cc

pub closed_early : (text means : List ℕ) (n : ℕ) → closing 34 false (drop 1 text) ≡ Some n → n + 1 < length text → IsQuoted text means → ⊥
closed_early text means n k l q =
    let e = closes_last text means q in
    let same : n ≡ length text - 1 = cc in
    omega (arith, same, l)

nil_of : (xs : List ℕ) → length xs ≡ 0 → xs ≡ []
nil_of [] e = refl
nil_of (x ∷ xs) e = absurd (omega (arith, e))

-- a text that begins with a `"` and is closed by its last byte has a body between the two quotes
pub body_between : (text : List ℕ) (n : ℕ) → get_or text 0 0 ≡ 34 → closing 34 false (drop 1 text) ≡ Some n → length text ≤ n + 1
    → HasQuotes text (take (n - 1) (drop 1 text))
body_between text n e k l = by_parts (closed 34 false (drop 1 text) n k)
  where
    by_parts : IsClosed 34 false (drop 1 text) n → HasQuotes text (take (n - 1) (drop 1 text))
    by_parts c =
        let sizes : length (drop 1 text) ≡ length text - 1 = length-drop 1 text in
        let none_left : length c.rest ≡ 0 = omega (arith, ap length c.parts, length-append c.body (34 ∷ c.rest), c.len, sizes) in
        let all : drop 1 text ≡ c.body ++ 34 ∷ [] = c.parts ∙ ap (λ t. c.body ++ 34 ∷ t) (nil_of c.rest none_left) in
        let middle : take (n - 1) (drop 1 text) ≡ c.body = ap (λ t. take (n - 1) t) all ∙ ap (λ m. take m (c.body ++ 34 ∷ [])) (omega (arith, c.len))
        ∙ take-append_seam c.body (34 ∷ []) in
        rw middle (record { parts = opened text e ∙ ap (λ t. 34 ∷ t) all; is_between_quotes = c.is_between_quotes })

-- a text that begins with a `"` can be cut after it without splitting a character
pub cut_first : (text : List ℕ) → IsUtf8 text → get_or text 0 0 ≡ 34 → IsCharBoundary text 1
cut_first text u e = IsCharBoundary-after_ascii text 0 u (let l = ap length (opened text e) in omega (arith, l)) (omega (arith, e))

pub cut_last : (text : List ℕ) (n : ℕ) → 0 < n → n < length text → get_or (drop 1 text) (n - 1) 0 ≡ 34 → IsCharBoundary text n
cut_last text n p h e =
    let at : 1 + (n - 1) ≡ n = omega arith in
    let last : get_or text n 0 ≡ 34 = ap (λ i. get_or text i 0) (sym at) ∙ sym (get_or-drop 1 text (n - 1) 0) ∙ e in
    IsCharBoundary-before_ascii text n h (omega (arith, last))

-- the slice `&bytes[1..]` of the bytes of a text is the text without its first byte
pub rest_of : (bytes text : List ℕ) → bytes ≡ text → take (length bytes - 1) (drop 1 bytes) ≡ drop 1 text
rest_of bytes text e = rw e (rw (← length-drop 1 text) (take-length (drop 1 text)))

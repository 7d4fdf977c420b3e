-- The readings of hex and loose number texts are their grammars.
use Rattle.kc_value.proofs.Common.{◌≡◌, ℕ, ◌^◌, ◌<◌, ◌≤◌, ℤ, pos, Bool, true, false, ◌&&◌, ◌⊎◌, inl, inr, ltb, leb, eqb, List, [], ◌∷◌, length, Some, refl, ap, sym, ◌∙◌, subst, arith, option_map, digit_value, and_parts, lt-ltb, le-ltb, leb-true, le-leb, eqb-true, magnitude, Writes, IsInt, decimal}
use Rattle.kc_value.proofs.Common.{negative, prefixed}
use Rattle.kc_value.specs.Number.{without_prefix, hex_text, loose_number}
use Rattle.kc_value.specs.NumberGrammar.{IsPrefixed, IsHex, bare, IsLoose, int, hex}
use Rattle.kc_value.proofs.NumberLaws.{magnitude_writes, writes_magnitude, under, mapped, int_sound, int_complete}

-- a text begins with `0x` or `0X`, and `without_prefix` gives the rest; or it gives the text itself
pub data Front (text : List ℕ) : Type 0 where
  with_prefix : (rest : List ℕ) → IsPrefixed text rest → without_prefix text ≡ rest → Front text
  none : without_prefix text ≡ text → Front text

front_upper : (d : Bool) (a x : ℕ) (rest : List ℕ) → ((eqb a 48 && eqb x 120) ≡ false) → (eqb a 48 && eqb x 88) ≡ d → Front (a ∷ x ∷ rest)
front_upper true a x rest f e =
    let (p, q) = and_parts (eqb a 48) (eqb x 88) e in
    with_prefix rest (record { letter = x; is_x = inr (eqb-true x 88 q); parts = ap (λ n. n ∷ x ∷ rest) (eqb-true a 48 p) }) (rw (f, e) refl)
front_upper false a x rest f e = none (rw (f, e) refl)

front_lower : (b : Bool) (a x : ℕ) (rest : List ℕ) → (eqb a 48 && eqb x 120) ≡ b → Front (a ∷ x ∷ rest)
front_lower true a x rest e =
    let (p, q) = and_parts (eqb a 48) (eqb x 120) e in
    with_prefix rest (record { letter = x; is_x = inl (eqb-true x 120 q); parts = ap (λ n. n ∷ x ∷ rest) (eqb-true a 48 p) }) (rw e refl)
front_lower false a x rest e = front_upper (eqb a 48 && eqb x 88) a x rest e refl

pub front : (text : List ℕ) → Front text
front [] = none refl
front (a ∷ []) = none refl
front (a ∷ x ∷ rest) = front_lower (eqb a 48 && eqb x 120) a x rest refl

pub prefix_dropped : (text rest : List ℕ) → IsPrefixed text rest → without_prefix text ≡ rest
prefix_dropped text rest p = ap without_prefix p.parts ∙ by_letter p.letter p.is_x
  where
    by_letter : (x : ℕ) → (x ≡ 120) ⊎ (x ≡ 88) → without_prefix (48 ∷ x ∷ rest) ≡ rest
    by_letter x (inl e) = rw e refl
    by_letter x (inr e) = rw e refl

hex_front : (text : List ℕ) (z : ℤ) (n : ℕ) → Front text → length text ≤ 64 → magnitude 16 (2 ^ 64) (without_prefix text) ≡ Some n → z ≡ pos n → IsHex text z
hex_front text z n (with_prefix rest p e) l m q =
    let (w, low) = magnitude_writes 16 (2 ^ 64) rest n (rw e at m) in
    prefixed rest n p w low q l
hex_front text z n (none e) l m q =
    let (w, low) = magnitude_writes 16 (2 ^ 64) text n (rw e at m) in
    bare n w low q l

pub hex_sound : (text : List ℕ) (z : ℤ) → hex_text text ≡ Some z → IsHex text z
unfolding hex_text
hex_sound text z h =
    let (short, e) = under (leb (length text) 64) (option_map pos (magnitude 16 (2 ^ 64) (without_prefix text))) z h in
    let (n, m, q) = mapped pos (magnitude 16 (2 ^ 64) (without_prefix text)) z e in
    hex_front text z n (front text) (leb-true _ _ short) m q

-- a text of digits of a base of at most 16 has no prefix
no_letter : (x : ℕ) (base : ℕ) → base ≤ 16 → (x ≡ 120) ⊎ (x ≡ 88) → digit_value x < base → ⊥
no_letter x base b (inl e) d = let k : 33 < base = rw e at d in omega (arith, k)
no_letter x base b (inr e) d = let k : 33 < base = rw e at d in omega (arith, k)

pub no_prefix : (base : ℕ) (text rest : List ℕ) (n : ℕ) → base ≤ 16 → Writes base text n → IsPrefixed text rest → ⊥
no_prefix base text rest n b w p =
    let v : Writes base (48 ∷ p.letter ∷ rest) n = subst (λ t. Writes base t n) p.parts w in
    no_letter p.letter base b p.is_x v.0.1.1.0

plain_front : (text : List ℕ) (n : ℕ) → Front text → Writes 16 text n → without_prefix text ≡ text
plain_front text n (with_prefix rest p e) w = absurd (no_prefix 16 text rest n (omega arith) w p)
plain_front text n (none e) w = e

pub hex_complete : (text : List ℕ) (z : ℤ) → IsHex text z → hex_text text ≡ Some z
unfolding hex_text
hex_complete text z (bare n w l e short) =
    let s : leb (length text) 64 ≡ true = le-leb _ _ short in
    rw s (ap (λ t. option_map pos (magnitude 16 (2 ^ 64) t)) (plain_front text n (front text) w) ∙ ap (option_map pos) (writes_magnitude 16 (2 ^ 64) text n w l)
    ∙ ap Some (sym e))
hex_complete text z (prefixed digits n p w l e short) =
    let s : leb (length text) 64 ≡ true = le-leb _ _ short in
    rw s (ap (λ t. option_map pos (magnitude 16 (2 ^ 64) t)) (prefix_dropped text digits p) ∙ ap (option_map pos) (writes_magnitude 16 (2 ^ 64) digits n w l)
    ∙ ap Some (sym e))

shorter : (text rest : List ℕ) → IsPrefixed text rest → length rest < length text
shorter text rest p = omega (arith, ap length p.parts)

loose_front : (text : List ℕ) (z : ℤ) → Front text → loose_number text ≡ Some z → IsLoose text z
unfolding loose_number
loose_front text z (with_prefix rest p e) h =
    let t : ltb (length (without_prefix text)) (length text) ≡ true = lt-ltb _ _ (rw e (shorter text rest p)) in
    hex rest p (hex_sound text z (rw t at h))
loose_front text z (none e) h =
    let t : ltb (length (without_prefix text)) (length text) ≡ false = le-ltb _ _ (omega (arith, ap length e)) in
    int (int_sound text z (rw t at h))

pub loose_sound : (text : List ℕ) (z : ℤ) → loose_number text ≡ Some z → IsLoose text z
loose_sound text z h = loose_front text z (front text) h

same_first : (a b : ℕ) (xs ys : List ℕ) → a ∷ xs ≡ b ∷ ys → a ≡ b
same_first a b xs ys e = cc

-- an int text has no prefix
int_front : (text : List ℕ) (z : ℤ) → Front text → IsInt text z → without_prefix text ≡ text
int_front text z (none e) i = e
int_front text z (with_prefix rest p e) i = absurd (int_prefix i)
  where
    open_minus : (digits : List ℕ) → text ≡ 45 ∷ digits → ⊥
    open_minus digits q = omega (arith, same_first 48 45 (p.letter ∷ rest) digits (sym p.parts ∙ q))

    int_prefix : IsInt text z → ⊥
    int_prefix (decimal n w l q short) = no_prefix 10 text rest n (omega arith) w p
    int_prefix (negative digits n q w l r short) = open_minus digits q

pub loose_complete : (text : List ℕ) (z : ℤ) → IsLoose text z → loose_number text ≡ Some z
unfolding loose_number
loose_complete text z (int i) =
    let t : ltb (length (without_prefix text)) (length text) ≡ false = le-ltb _ _ (omega (arith, ap length (int_front text z (front text) i))) in
    rw t (int_complete text z i)
loose_complete text z (hex rest p h) =
    let t : ltb (length (without_prefix text)) (length text) ≡ true = lt-ltb _ _ (omega (arith, ap length (prefix_dropped text rest p), shorter text rest p)) in
    rw t (hex_complete text z h)

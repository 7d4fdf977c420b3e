-- The readings of number texts are their grammars.
use Rattle.std.proofs.Common.{neg_ℤ}
use Rattle.kc_value.proofs.Common.{◌≡◌, ℕ, ◌^◌, ◌<◌, ◌≤◌, ℤ, pos, Bool, true, false, ◌&&◌, ltb, leb, eqb, cond, List, [], ◌∷◌, length, Option, Some, None, refl, ap, sym, ◌∙◌, arith, option_map, is_digit, digit_value, list_all, and_parts, ltb-true, lt-ltb, leb-true, le-leb, eqb-true, ne_eqb}
use Rattle.kc_value.proofs.Common.{magnitude, Writes, IsInt, decimal, negative}
use Rattle.std.specs.Str.Parse.{AllDigits, digits_value}
use Rattle.kc_value.specs.Number.{signed_text, int_text}

all_digits : (base : ℕ) (ds : List ℕ) → list_all (λ c. is_digit c base) ds ≡ true → AllDigits base ds
all_digits base [] h = tt
all_digits base (c ∷ cs) h =
    let (d, r) = and_parts (is_digit c base) (list_all (λ c. is_digit c base) cs) h in
    (ltb-true _ _ d, all_digits base cs r)

all_true : (base : ℕ) (ds : List ℕ) → AllDigits base ds → list_all (λ c. is_digit c base) ds ≡ true
all_true base [] h = refl
all_true base (c ∷ cs) h = let d : is_digit c base ≡ true = lt-ltb _ _ h.0 in rw d (all_true base cs h.1)

parts : (a b c : Bool) (v n : ℕ) → cond ((a && b) && c) (Some v) None ≡ Some n → (a ≡ true) × (b ≡ true) × (c ≡ true) × (v ≡ n)
parts true true true v n e = (refl, refl, refl, cc)
parts true true false v n e = cc
parts true false c v n e = cc
parts false b c v n e = cc

-- where digits have a magnitude below a limit, they write that number, and it is below the limit
pub magnitude_writes : (base limit : ℕ) (ds : List ℕ) (n : ℕ) → magnitude base limit ds ≡ Some n → Writes base ds n × (n < limit)
magnitude_writes base limit ds n h =
    let (a, b, c, e) = parts (ltb 0 (length ds)) (list_all (λ c. is_digit c base) ds) (ltb (digits_value base ds) limit) (digits_value base ds) n h in
    let low : digits_value base ds < limit = ltb-true _ _ c in
    (((ltb-true _ _ a, all_digits base ds b), e), rw e at low)

pub writes_magnitude : (base limit : ℕ) (ds : List ℕ) (n : ℕ) → Writes base ds n → n < limit → magnitude base limit ds ≡ Some n
writes_magnitude base limit ds n w l =
    let a : ltb 0 (length ds) ≡ true = lt-ltb _ _ w.0.0 in
    let b = all_true base ds w.0.1 in
    let c : ltb (digits_value base ds) limit ≡ true = lt-ltb _ _ (rw w.1 l) in
    rw (a, b, c) (ap Some w.1)

pub under : (b : Bool) (o : Option ℤ) (z : ℤ) → cond b o None ≡ Some z → (b ≡ true) × (o ≡ Some z)
under true o z e = (refl, e)
under false o z e = cc

pub mapped : (f : ℕ → ℤ) (o : Option ℕ) (z : ℤ) → option_map f o ≡ Some z → (n : ℕ) × (o ≡ Some n) × (z ≡ f n)
mapped f None z e = cc
mapped f (Some n) z e = (n, refl, cc)

signed_at : (b : Bool) (c : ℕ) (cs : List ℕ) (z : ℤ) → (eqb c 45 ≡ b) → length (c ∷ cs) ≤ 64
    → cond b (option_map (λ n. neg_ℤ (pos n)) (magnitude 10 (2 ^ 63) cs)) (option_map pos (magnitude 10 (2 ^ 63) (c ∷ cs))) ≡ Some z → IsInt (c ∷ cs) z
signed_at true c cs z e l h =
    let (n, m, q) = mapped (λ n. neg_ℤ (pos n)) (magnitude 10 (2 ^ 63) cs) z h in
    let (w, low) = magnitude_writes 10 (2 ^ 63) cs n m in
    negative cs n (ap (λ d. d ∷ cs) (eqb-true c 45 e)) w low q l
signed_at false c cs z e l h =
    let (n, m, q) = mapped pos (magnitude 10 (2 ^ 63) (c ∷ cs)) z h in
    let (w, low) = magnitude_writes 10 (2 ^ 63) (c ∷ cs) n m in
    decimal n w low q l

signed_sound : (text : List ℕ) (z : ℤ) → length text ≤ 64 → signed_text text ≡ Some z → IsInt text z
signed_sound [] z l h = cc
signed_sound (c ∷ cs) z l h = signed_at (eqb c 45) c cs z refl l h

pub int_sound : (text : List ℕ) (z : ℤ) → int_text text ≡ Some z → IsInt text z
unfolding int_text
int_sound text z h =
    let (short, e) = under (leb (length text) 64) (signed_text text) z h in
    signed_sound text z (leb-true _ _ short) e

plain_complete : (text : List ℕ) (n : ℕ) → Writes 10 text n → n < 2 ^ 63 → signed_text text ≡ Some (pos n)
plain_complete [] n w l = absurd (omega (arith, w.0.0))
plain_complete (c ∷ cs) n w l =
    let other : eqb c 45 ≡ false = ne_eqb c 45 (λ e. let d : digit_value c < 10 = w.0.1.0 in let k : 36 < 10 = rw e at d in omega (arith, k)) in
    rw other (ap (option_map pos) (writes_magnitude 10 (2 ^ 63) (c ∷ cs) n w l))

pub int_complete : (text : List ℕ) (z : ℤ) → IsInt text z → int_text text ≡ Some z
unfolding int_text
int_complete text z (decimal n w l e short) =
    let s : leb (length text) 64 ≡ true = le-leb _ _ short in
    rw s (plain_complete text n w l ∙ ap Some (sym e))
int_complete text z (negative digits n parted w l e short) =
    let s : leb (length text) 64 ≡ true = le-leb _ _ short in
    rw (s, parted) (ap (option_map (λ n. neg_ℤ (pos n))) (writes_magnitude 10 (2 ^ 63) digits n w l) ∙ ap Some (sym e))

-- Texts of numbers have no white byte and no newline.
use Rattle.std.proofs.Common.{◌-◌, ◌^◌}
use Rattle.std.specs.Prelude.{neg_ℤ, option_map, nat_le}
use Rattle.kc_rules_model.proofs.Common.{◌≡◌, inl, inr, ℕ, ◌<◌, ◌≤◌, Bool, true, false, ◌&&◌, ◌==◌, cond, List, [], ◌∷◌, Option, Some, None, ℤ, pos, length, refl, sym, ◌∙◌, ap, arith, is_some, nat_lt, list_all, false≢true, eqb-true, and_parts, and_from, ltb-true, Kind, Tristate, Text, Int, Hex}
use Rattle.kc_rules_model.proofs.Common.{number_of_text}
use Rattle.std.specs.Char.{is_digit}
use Rattle.std.specs.Str.Parse.{digits_value}
use Rattle.std.proofs.lemmas.Bool.{cases_lt, lt-ltb}
use Rattle.std.proofs.lemmas.Bool.Decides.{nat_tests}
use Rattle.kc_value.specs.declared.value.Kind.TheVariants.{Bool as Boolean}
use Rattle.kc_value.specs.Number.{int_text, hex_text, signed_text, magnitude, without_prefix}
use Rattle.kc_rules_model.proofs.Ink.{is_ink, ink_of, all_weaker}

-- a text has one byte or more, all below 128, and none of them is white or a newline
pub record IsInk (text : List ℕ) : Type 0 where
  pub some : 0 < length text
  pub ink : list_all is_ink text ≡ true
  pub low : list_all (λ b. nat_lt b 128) text ≡ true

no_less : (a k : ℕ) → k ≤ a → nat_lt a k ≡ false
no_less a k h = grind (arith, nat_tests)

no_digit : (a b c d e f : Bool) (x y z : ℕ) → a ≡ false → b ≡ false → c ≡ false → d ≡ false → e ≡ false → f ≡ false
    → cond a 36 (cond b x (cond c 36 (cond d y (cond e 36 (cond f z 36))))) ≡ 36
no_digit a b c d e f x y z p q r s t u = rw (p, q, r, s, t, u) refl

-- a digit is below 128
digit_low : (base : ℕ) → base ≤ 36 → (b : ℕ) → is_digit b base ≡ true → nat_lt b 128 ≡ true
digit_low base most b digit = elim (cases_lt b 128) [
  | inl low ↦ lt-ltb b 128 low
  | inr high ↦
      let none = no_digit (nat_lt b 48) (nat_lt b 58) (nat_lt b 65) (nat_lt b 91) (nat_lt b 97) (nat_lt b 123) (b - 48) (b - 55) (b - 87)
      (no_less b 48 (omega arith)) (no_less b 58 (omega arith)) (no_less b 65 (omega arith)) (no_less b 91 (omega arith)) (no_less b 97 (omega arith))
      (no_less b 123 (omega arith)) in
      absurd (false≢true (sym (no_less 36 base most) ∙ ap (λ v. nat_lt v base) (sym none) ∙ digit))
]

test_holds : (t : Bool) (n : ℕ) → is_some (cond t (Some n) None) ≡ true → t ≡ true
test_holds true n e = refl
test_holds false n e = absurd (false≢true e)

some_then : (t : Bool) (o : Option ℤ) → is_some (cond t o None) ≡ true → is_some o ≡ true
some_then true o e = e
some_then false o e = absurd (false≢true e)

some_before : (f : ℕ → ℤ) (o : Option ℕ) → is_some (option_map f o) ≡ true → is_some o ≡ true
some_before f None e = absurd (false≢true e)
some_before f (Some n) e = refl

digits_ink : (base limit : ℕ) (xs : List ℕ) → base ≤ 36 → ((b : ℕ) → is_digit b base ≡ true → is_ink b ≡ true) → is_some (magnitude base limit xs) ≡ true
    → IsInk xs
digits_ink base limit xs most each e =
    let test = test_holds (nat_lt 0 (length xs) && list_all (λ c. is_digit c base) xs && nat_lt (digits_value base xs) limit) (digits_value base xs) e in
    let first = and_parts (nat_lt 0 (length xs) && list_all (λ c. is_digit c base) xs) (nat_lt (digits_value base xs) limit) test in
    let second = and_parts (nat_lt 0 (length xs)) (list_all (λ c. is_digit c base) xs) first.0 in
    record {
      some = ltb-true 0 (length xs) second.0;
      ink = all_weaker (λ c. is_digit c base) is_ink each xs second.1;
      low = all_weaker (λ c. is_digit c base) (λ b. nat_lt b 128) (digit_low base most) xs second.1;
    }

decimal_ink : (b : ℕ) → is_digit b 10 ≡ true → is_ink b ≡ true
decimal_ink = ink_of (λ c. is_digit c 10) refl refl refl refl refl refl

hex_ink : (b : ℕ) → is_digit b 16 ≡ true → is_ink b ≡ true
hex_ink = ink_of (λ c. is_digit c 16) refl refl refl refl refl refl

more_ink : (b k : ℕ) (xs : List ℕ) → (b == k) ≡ true → is_ink k ≡ true → nat_lt k 128 ≡ true → IsInk xs → IsInk (b ∷ xs)
more_ink b k xs same ink low rest = record {
  some = omega arith;
  ink = and_from (is_ink b) (list_all is_ink xs) (ap is_ink (eqb-true b k same) ∙ ink) rest.ink;
  low = and_from (nat_lt b 128) (list_all (λ c. nat_lt c 128) xs) (ap (λ c. nat_lt c 128) (eqb-true b k same) ∙ low) rest.low;
}

signed_ink : (text : List ℕ) → is_some (signed_text text) ≡ true → IsInk text
signed_ink [] e = absurd (false≢true e)
signed_ink (c ∷ cs) e = go (c == 45) refl e where
  go : (t : Bool) → (c == 45) ≡ t
      → is_some (cond t (option_map (λ n. neg_ℤ (pos n)) (magnitude 10 (2 ^ 63) cs)) (option_map pos (magnitude 10 (2 ^ 63) (c ∷ cs)))) ≡ true → IsInk (c ∷ cs)
  go true minus some = more_ink c 45 cs minus refl refl (digits_ink 10 (2 ^ 63) cs (omega arith) decimal_ink (some_before _ (magnitude 10 (2 ^ 63) cs) some))
  go false minus some = digits_ink 10 (2 ^ 63) (c ∷ cs) (omega arith) decimal_ink (some_before pos (magnitude 10 (2 ^ 63) (c ∷ cs)) some)

int_ink : (text : List ℕ) → is_some (int_text text) ≡ true → IsInk text
unfolding int_text
int_ink text e = signed_ink text (some_then (nat_le (length text) 64) (signed_text text) e)

ink_with_prefix : (text : List ℕ) → IsInk (without_prefix text) → IsInk text
ink_with_prefix [] rest = rest
ink_with_prefix (a ∷ []) rest = rest
ink_with_prefix (a ∷ b ∷ cs) rest = go (a == 48 && (b == 120)) (a == 48 && (b == 88)) refl refl rest where
  go : (s t : Bool) → (a == 48 && (b == 120)) ≡ s → (a == 48 && (b == 88)) ≡ t → IsInk (cond s cs (cond t cs (a ∷ b ∷ cs))) → IsInk (a ∷ b ∷ cs)
  go true t small large rest =
      let both = and_parts (a == 48) (b == 120) small in more_ink a 48 (b ∷ cs) both.0 refl refl (more_ink b 120 cs both.1 refl refl rest)
  go false true small large rest =
      let both = and_parts (a == 48) (b == 88) large in more_ink a 48 (b ∷ cs) both.0 refl refl (more_ink b 88 cs both.1 refl refl rest)
  go false false small large rest = rest

hex_text_ink : (text : List ℕ) → is_some (hex_text text) ≡ true → IsInk text
unfolding hex_text
hex_text_ink text e =
    let some = some_then (nat_le (length text) 64) (option_map pos (magnitude 16 (2 ^ 64) (without_prefix text))) e in
    ink_with_prefix text (digits_ink 16 (2 ^ 64) (without_prefix text) (omega arith) hex_ink
    (some_before pos (magnitude 16 (2 ^ 64) (without_prefix text)) some))

-- the text of a number has one byte or more, all below 128, and none of them is white or a newline
pub number_ink : (kind : Kind) (text : List ℕ) → is_some (number_of_text kind text) ≡ true → IsInk text
number_ink Boolean text e = absurd (false≢true e)
number_ink Tristate text e = absurd (false≢true e)
number_ink Text text e = absurd (false≢true e)
number_ink Int text e = int_ink text e
number_ink Hex text e = hex_text_ink text e

-- Numbers of texts of digits, digit by digit.
use Rattle.std.proofs.Common.{◌^◌}
use Rattle.kc_macros.proofs.Common.{◌≡◌, ℕ, zero, suc, ◌+◌, ◌*◌, ◌<◌, ◌≤◌, Bool, true, false, ◌&&◌, List, [], ◌∷◌, length, take, get_or, refl, ap, ◌∙◌, inl, inr, arith, ◌⊎◌, nat_lt, list_all, is_digit, digits_value, is_number}
use Rattle.std.specs.Char.{digit_value}
use Rattle.std.proofs.lemmas.Str.Parse.{digits_value-take-le}
use Rattle.std.proofs.lemmas.Int.Digits.{digits_value_more}

both_so : (b c : Bool) → b ≡ true → c ≡ true → (b && c) ≡ true
both_so true true e f = refl
both_so true false e f = f
both_so false c e f = e

one_fails : (b c : Bool) → c ≡ false → (b && c) ≡ false
one_fails true c e = e
one_fails false c e = refl

first_of_both : (b c : Bool) → (b && c) ≡ true → b ≡ true
first_of_both true c e = refl
first_of_both false c e = e

second_of_both : (b c : Bool) → (b && c) ≡ true → c ≡ true
second_of_both true c e = e
second_of_both false c e = absurd (let z : ⊥ = cc in z)

module _ (p : ℕ → Bool) where
  -- if the first `i` elements of a list pass a test and so does element `i`, counted from 0, the first `i + 1` do
  pub all_more : (xs : List ℕ) (i : ℕ) → i < length xs → list_all p (take i xs) ≡ true → p (get_or xs i 0) ≡ true → list_all p (take (i + 1) xs) ≡ true
  all_more [] i h all here = absurd (omega arith)
  all_more (x ∷ xs) zero h all here = both_so (p x) true here refl
  all_more (x ∷ xs) (suc i) h all here =
      ap (λ n. list_all p (take n (x ∷ xs))) (let e : suc i + 1 ≡ suc (i + 1) = omega arith in e) ∙ both_so (p x) (list_all p (take (i + 1) xs))
      (first_of_both (p x) (list_all p (take i xs)) all) (all_more xs i (omega (arith, h)) (second_of_both (p x) (list_all p (take i xs)) all) here)

  -- if an element of a list fails a test, not all elements pass it
  pub all_fails : (xs : List ℕ) (i : ℕ) → i < length xs → p (get_or xs i 0) ≡ false → list_all p xs ≡ false
  all_fails [] i h here = absurd (omega arith)
  all_fails (x ∷ xs) zero h here = ap (λ b. b && list_all p xs) here
  all_fails (x ∷ xs) (suc i) h here = one_fails (p x) (list_all p xs) (all_fails xs i (omega (arith, h)) here)

-- a text isn't a number from 1 to a limit: it isn't all digits, or its number is 0 or past the limit
abbrev pub IsNoNumber : List ℕ → ℕ → Type 0
IsNoNumber text limit = (is_number text ≡ false) ⊎ ((digits_value 10 text ≡ 0) ⊎ (limit < digits_value 10 text))

module _ (text : List ℕ) (i number limit : ℕ) (h : i < length text) (value : digits_value 10 (take i text) ≡ number) where
  abbrev here : ℕ
  here = get_or text i 0

  pub next_value : digits_value 10 (take (i + 1) text) ≡ number * 10 + digit_value here
  next_value = digits_value_more 10 text i h ∙ ap (λ n. n * 10 + digit_value here) value

  pub too_large : limit < number * 10 + digit_value here → IsNoNumber text limit
  too_large l = inr (inr (let le = digits_value-take-le 10 text (i + 1) (omega arith) in omega (arith, le, next_value, l)))

  pub no_digit : is_digit here 10 ≡ false → IsNoNumber text limit
  no_digit e = inl (one_fails (nat_lt 0 (length text)) (list_all (λ c. is_digit c 10) text) (all_fails (λ c. is_digit c 10) text i h e))

  pub no_next_digit : limit < 2 ^ 64 → (is_digit here 10 ≡ false) ⊎ (2 ^ 64 ≤ number * 10 + digit_value here) → IsNoNumber text limit
  no_next_digit fits (inl e) = no_digit e
  no_next_digit fits (inr l) = too_large (omega (arith, fits, l))

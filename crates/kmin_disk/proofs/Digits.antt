-- Digits of numbers in base 16.
use Rattle.std.proofs.Common.{◌≡◌, ℕ, ◌-◌, ◌<◌, ◌/◌, ◌%◌, List, [], ◌∷◌, ◌++◌, ap, sym, arith, zero, suc}
use Rattle.std.proofs.lemmas.List.{append-nil}
use Rattle.kmin_disk.specs.NewFiles.{hex_digits, hex_digit}

pub hex_digits-zero : (text : List ℕ) (number : ℕ) → text ≡ text ++ hex_digits 0 number
unfolding hex_digits
hex_digits-zero text number = sym (append-nil text)

pub hex_digits-suc : (count number : ℕ) → 0 < count → hex_digits count number ≡ hex_digits (count - 1) (number / 16) ++ hex_digit (number % 16) ∷ []
unfolding hex_digits
hex_digits-suc zero number some = absurd (omega arith)
hex_digits-suc (suc count) number some = ap (λ k. hex_digits k (number / 16) ++ hex_digit (number % 16) ∷ []) (let e : count ≡ suc count - 1 = omega arith in e)

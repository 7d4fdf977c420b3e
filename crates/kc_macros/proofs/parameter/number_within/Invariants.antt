use Rattle.kc_macros.proofs.Common.{◌≡◌, ◌≤◌, true, take, list_all, is_digit, digits_value}
use Rattle.kc_macros.proofs.parameter.number_within.Given as goal

-- the first `i` bytes of the text are digits, and `number` is their number, which is within the limit
abbrev pub invariant-digits : goal.invariant-digits
invariant-digits l = record {
  digits : list_all (λ c. is_digit c 10) (take l.i l.text) ≡ true;
  value : digits_value 10 (take l.i l.text) ≡ l.number;
  within : l.number ≤ l.limit;
}

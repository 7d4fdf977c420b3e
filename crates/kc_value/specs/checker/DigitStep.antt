-- One step of reading digits.
use Rattle.std.specs.Prelude.{ℕ, ◌+◌, ◌*◌, ◌&&◌, nat_lt, Option, Some, None, if◌then◌else◌}
use Rattle.std.specs.Char.{is_digit, digit_value}

-- a number with a byte as one more digit of a base at its end; None if the byte is no digit of the base, or if the result isn't
-- below a limit
abbrev pub with_digit : ℕ → ℕ → ℕ → ℕ → Option ℕ
with_digit base limit n c =
    if is_digit c base && nat_lt (n * base + digit_value c) limit then Some (n * base + digit_value c) else None

-- The number texts of int and hex symbols ("Menu attributes", type definition and numerical ranges).
use Rattle.std.specs.Prelude.{ℕ, false, unsigned_abs, ◌^◌, ◌<◌, ℤ, pos, neg_ℤ, ◌≤ℤ◌, ◌<ℤ◌, ◌&&◌, nat_lt, nat_le, ◌==◌, List, [], ◌∷◌, length, Option, Some, None, option_map, if◌then◌else◌}
use Rattle.std.specs.Char.{is_digit}
use Rattle.std.specs.Fmt.{digits, signed_decimal}
use Rattle.std.specs.List.{list_all}
use Rattle.std.specs.Str.Parse.{digits_value}
use Rattle.kc_value.specs.declared.limits.TheConstants.{MAX_NUMBER_BYTES}
use Rattle.kc_value.specs.declared.value.Kind.{Kind}
use Rattle.kc_value.specs.declared.value.Kind.TheVariants.{Int, Hex}

-- the number that one or more digits of a base write, if it is below a limit; None for every other text
abbrev pub magnitude : ℕ → ℕ → List ℕ → Option ℕ
magnitude base limit digits =
    if nat_lt 0 (length digits) && list_all (λ c. is_digit c base) digits && nat_lt (digits_value base digits) limit then Some (digits_value base digits) else None

-- the number of decimal digits, with a minus in front or without, if its magnitude is below 2^63
abbrev pub signed_text : List ℕ → Option ℤ
signed_text [] = None
signed_text (c ∷ cs) = if c == 45 then option_map (λ n. neg_ℤ (pos n)) (magnitude 10 (2 ^ 63) cs) else option_map pos (magnitude 10 (2 ^ 63) (c ∷ cs))

-- a text without the `0x` or `0X` at its front, if it has one
abbrev pub without_prefix : List ℕ → List ℕ
without_prefix (a ∷ b ∷ rest) = if a == 48 && (b == 120) then rest else if a == 48 && (b == 88) then rest else (a ∷ b ∷ rest)
without_prefix rest = rest

-- the number of an int text, which has at most `MAX_NUMBER_BYTES` bytes; None for every other text
unfoldable pub int_text : List ℕ → Option ℤ
int_text text = if nat_le (length text) MAX_NUMBER_BYTES then signed_text text else None

-- the number of a hex text, which has at most `MAX_NUMBER_BYTES` bytes; None for every other text
unfoldable pub hex_text : List ℕ → Option ℤ
hex_text text = if nat_le (length text) MAX_NUMBER_BYTES then option_map pos (magnitude 16 (2 ^ 64) (without_prefix text)) else None

-- the number of a text that isn't of an int or hex symbol: read as a hex text if it begins with `0x` or `0X`, else as an int text
unfoldable pub loose_number : List ℕ → Option ℤ
loose_number text = if nat_lt (length (without_prefix text)) (length text) then hex_text text else int_text text

-- the number that a text is for an int or a hex symbol, by the symbol's type; None for the other types
abbrev pub number_of_text : Kind → List ℕ → Option ℤ
number_of_text Int text = int_text text
number_of_text Hex text = hex_text text
number_of_text _ text = None

-- a number can be printed for a type: of a magnitude below 2^63 for int, from 0 to 2^64 - 1 for hex, none for other types
abbrev pub IsPrintable : Kind → ℤ → Type 0
IsPrintable Int n = unsigned_abs n < 2 ^ 63
IsPrintable Hex n = (pos 0 ≤ℤ n) × (n <ℤ pos (2 ^ 64))
IsPrintable _ n = ⊥

-- the canonical text of a number for a type, without leading zeros: `0x` and lower-case hex digits for hex, else decimal digits
-- after a minus where it is negative
abbrev pub number_spelling : Kind → ℤ → List ℕ
number_spelling Hex n = 48 ∷ 120 ∷ digits 16 false (unsigned_abs n)
number_spelling _ n = signed_decimal n

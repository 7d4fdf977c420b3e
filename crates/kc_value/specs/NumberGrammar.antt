-- The grammars of number texts, as relations between a text and its number ("Menu attributes").
use Rattle.std.specs.Prelude.{◌≡◌, ℕ, ◌^◌, ◌<◌, ◌≤◌, ℤ, pos, neg_ℤ, List, ◌∷◌, length, ◌⊎◌}
use Rattle.kc_value.specs.declared.limits.TheConstants.{MAX_NUMBER_BYTES}
use Rattle.std.specs.Str.Parse.{IsNumeral, digits_value}

-- bytes are one or more digits of a base, and write a number
abbrev pub Writes : ℕ → List ℕ → ℕ → Type 0
Writes base digits n = IsNumeral base digits × (digits_value base digits ≡ n)

-- a text is an int text of a number: decimal digits, or a minus and decimal digits, of a magnitude of at most 2^63 - 1, and of at
-- most `MAX_NUMBER_BYTES` bytes
pub data IsInt (text : List ℕ) (z : ℤ) : Type 0 where
  decimal : (n : ℕ) → Writes 10 text n → n < 2 ^ 63 → z ≡ pos n → length text ≤ MAX_NUMBER_BYTES → IsInt text z
  negative : (digits : List ℕ) (n : ℕ) → text ≡ 45 ∷ digits → Writes 10 digits n → n < 2 ^ 63 → z ≡ neg_ℤ (pos n) → length text ≤ MAX_NUMBER_BYTES → IsInt text z

-- a text is `0x` or `0X` and then the rest
pub record IsPrefixed (text rest : List ℕ) : Type 0 where
  pub letter : ℕ
  pub is_x : (letter ≡ 120) ⊎ (letter ≡ 88)
  pub parts : text ≡ 48 ∷ letter ∷ rest

-- a text is a hex text of a number: hex digits, with `0x` or `0X` in front or without, of at most 2^64 - 1, and of at most
-- `MAX_NUMBER_BYTES` bytes
pub data IsHex (text : List ℕ) (z : ℤ) : Type 0 where
  bare : (n : ℕ) → Writes 16 text n → n < 2 ^ 64 → z ≡ pos n → length text ≤ MAX_NUMBER_BYTES → IsHex text z
  prefixed : (digits : List ℕ) (n : ℕ) → IsPrefixed text digits → Writes 16 digits n → n < 2 ^ 64 → z ≡ pos n → length text ≤ MAX_NUMBER_BYTES → IsHex text z

-- a text that isn't of an int or hex symbol has a number: that of an int text, or of a hex text that begins with `0x` or `0X`
pub data IsLoose (text : List ℕ) (z : ℤ) : Type 0 where
  int : IsInt text z → IsLoose text z
  hex : (rest : List ℕ) → IsPrefixed text rest → IsHex text z → IsLoose text z

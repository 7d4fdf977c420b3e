-- Lines of UTF-8 without the white bytes at their end.
use Rattle.std.proofs.Common.{IsUtf8}
use Rattle.kc_dotconfig_model.proofs.Common.{◌≡◌, inl, inr, ℕ, ◌-◌, ◌<◌, ◌≤◌, true, List, length, get_or, reverse, sym, ap, ◌∙◌, subst, arith, nat_lt, IsCharBoundary, list_all, suffix_len, cases_lt, lt-ltb, length-take-le, suffix_len-le-length}
use Rattle.kc_dotconfig_model.proofs.Common.{is_white_byte, is_name_byte, without_white_end}
use Rattle.std.proofs.lemmas.Bool.Decides.{nat_tests}
use Rattle.std.proofs.lemmas.List.{get_or-reverse}
use Rattle.std.proofs.lemmas.List.Sums.{prefix_len_passes}
use Rattle.std.proofs.lemmas.Str.{IsUtf8-take, IsCharBoundary-end, IsCharBoundary-before_ascii}
use Rattle.kc_rules_model.proofs.FittingValues.{low_utf8}
use Rattle.kc_rules_model.proofs.Ink.{all_weaker}

-- a white byte is below 128
white_low : (b : ℕ) → is_white_byte b ≡ true → b < 128
white_low b white = grind (arith, nat_tests)

-- so is a byte of a name
name_low : (b : ℕ) → is_name_byte b ≡ true → nat_lt b 128 ≡ true
name_low b named = let low : b < 128 = grind (arith, nat_tests) in lt-ltb b 128 low

-- a name, whose bytes are letters, digits and `_`, is UTF-8
pub name_utf8 : (name : List ℕ) → list_all is_name_byte name ≡ true → IsUtf8 name
name_utf8 name all = low_utf8 name (all_weaker is_name_byte (λ b. nat_lt b 128) name_low name all)

-- if a line ends with white bytes, the byte at which they begin is white
pub white_suffix_begins : (line : List ℕ) → 0 < suffix_len is_white_byte line
    → is_white_byte (get_or line (length line - suffix_len is_white_byte line) 0) ≡ true
white_suffix_begins line some =
    let n = suffix_len is_white_byte line in
    let most : n ≤ length line = suffix_len-le-length is_white_byte line in
    let passes : is_white_byte (get_or (reverse line) (n - 1) 0) ≡ true = prefix_len_passes is_white_byte (reverse line) (n - 1) 0 (omega arith) in
    let turned : get_or (reverse line) (n - 1) 0 ≡ get_or line (length line - 1 - (n - 1)) 0 = get_or-reverse line (n - 1) 0 (omega arith) in
    let place : length line - 1 - (n - 1) ≡ length line - n = omega arith in
    ap (λ k. is_white_byte (get_or line k 0)) (sym place) ∙ ap is_white_byte (sym turned) ∙ passes

-- a line of UTF-8 is UTF-8 without the white bytes at its end
pub trimmed_utf8 : (line : List ℕ) → IsUtf8 line → IsUtf8 (without_white_end line)
trimmed_utf8 line u =
    let n = suffix_len is_white_byte line in
    let most : n ≤ length line = suffix_len-le-length is_white_byte line in
    elim (cases_lt 0 n) [
      | inl some ↦ IsUtf8-take line (length line - n) u (IsCharBoundary-before_ascii line (length line - n) (omega arith)
          (white_low _ (white_suffix_begins line some)))
      | inr none ↦ (let all : length line ≡ length line - n = omega arith in IsUtf8-take line (length line - n) u
          (subst (λ k. IsCharBoundary line k) all (IsCharBoundary-end line)))
    ]

-- a line without the white bytes at its end is no longer than the line
pub trimmed_no_longer : (line : List ℕ) → length (without_white_end line) ≤ length line
trimmed_no_longer line =
    let n = suffix_len is_white_byte line in
    let same = length-take-le (length line - n) line (omega arith) in
    omega arith

-- Texts as messages show them.
use Rattle.std.specs.Prelude.{ℕ, Bool, not, ◌||◌, ◌==◌, ◌-◌, ◌/◌, ◌%◌, List, [], ◌∷◌, ◌++◌, codes, length, map, nat_le, nat_lt, if◌then◌else◌}
use Rattle.std.specs.List.{list_all}
use Rattle.std.specs.Str.{chars}
use Rattle.std.specs.Char.{encode_utf8, is_control, digit_char}
use Rattle.kmin_messages.specs.declared.shown_text.TheConstants.{MAX_SHOWN_BYTES}

-- whether bytes lack this byte
abbrev pub has_no_byte : (byte : ℕ) (bytes : List ℕ) → Bool
has_no_byte byte bytes = list_all (λ c. not (c == byte)) bytes

-- whether bytes lack all control bytes: those below 32, and 127
abbrev pub has_no_control_byte : List ℕ → Bool
has_no_control_byte bytes = list_all (λ c. not (nat_lt c 32 || (c == 127))) bytes

-- the code of a character below 256, as `\x` and two hexadecimal digits
abbrev pub code_text : ℕ → List ℕ
code_text c = codes "\\x" ++ (digit_char (c / 16) ∷ digit_char (c % 16) ∷ [])

-- a character as a message shows it: a newline as `\n`, a tab as `\t`, a backslash as `\\`, another control character by its code, and
-- any other as it is
abbrev pub shown_char : ℕ → List ℕ
shown_char c =
    if c == 10 then codes "\\n"
    else if c == 9 then codes "\\t"
    else if c == 92 then codes "\\\\"
    else if is_control c then code_text c
    else encode_utf8 c

-- the first of these pieces, joined, up to the last that is whole within `room` bytes
abbrev pub fitting : (room : ℕ) (pieces : List (List ℕ)) → List ℕ
fitting room [] = []
fitting room (piece ∷ pieces) = if nat_le (length piece) room then piece ++ fitting (room - length piece) pieces else []

-- a text as a message shows it: its characters, as many as are whole within 200 bytes
abbrev pub shown : List ℕ → List ℕ
shown text = fitting MAX_SHOWN_BYTES (map shown_char (chars text))

-- whether a text has neither control characters nor backslashes
abbrev pub is_plain : List ℕ → Bool
is_plain text = list_all (λ c. not (is_control c || (c == 92))) (chars text)

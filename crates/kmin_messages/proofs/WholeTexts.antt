-- Texts that are shown as they are.
use Rattle.std.proofs.Common.{◌≡◌, ℕ, ◌-◌, ◌≤◌, Bool, true, false, not, ◌&&◌, ◌||◌, ◌==◌, List, [], ◌∷◌, ◌++◌, length, map, nat_le, length-append, refl, ap, sym, subst, ◌∙◌, arith}
use Rattle.std.specs.Prelude.{IsUtf8}
use Rattle.std.specs.List.{list_all}
use Rattle.std.specs.Str.{chars}
use Rattle.std.specs.Char.{encode_utf8, is_control}
use Rattle.std.specs.Prelude.{encode_utf8_all}
use Rattle.std.proofs.lemmas.Bool.{le-leb, ne_eqb}
use Rattle.std.proofs.lemmas.Str.{encodes-chars}
use Rattle.kmin_messages.specs.ShownTexts.{shown_char, fitting, shown, is_plain}

-- whether a character is shown as it is
abbrev is_itself : ℕ → Bool
is_itself c = not (is_control c || (c == 92))

itself_by : (c : ℕ) (control slash : Bool) → is_control c ≡ control → (c == 92) ≡ slash → not (control || slash) ≡ true → shown_char c ≡ encode_utf8 c
itself_by c true slash e f h = cc
itself_by c false true e f h = cc
itself_by c false false e f h =
    let other : (n : ℕ) → is_control n ≡ true → (c == n) ≡ false = λ n k. ne_eqb c n (λ same. clash (is_control c) (ap is_control same ∙ k) e) in
    rw (other 10 refl, other 9 refl, f, e) refl
  where
    clash : (b : Bool) → b ≡ true → b ≡ false → ⊥
    clash b h k = cc

itself : (c : ℕ) → is_itself c ≡ true → shown_char c ≡ encode_utf8 c
itself c h = itself_by c (is_control c) (c == 92) refl refl h

first_of : (a b : Bool) → (a && b) ≡ true → a ≡ true
first_of true b h = refl
first_of false b h = cc

second_of : (a b : Bool) → (a && b) ≡ true → b ≡ true
second_of true b h = h
second_of false b h = cc

all_fit : (cs : List ℕ) (room : ℕ) → length (encode_utf8_all cs) ≤ room → list_all is_itself cs ≡ true → fitting room (map shown_char cs) ≡ encode_utf8_all cs
all_fit [] room h k = refl
all_fit (c ∷ cs) room h k =
    let both = length-append (encode_utf8 c) (encode_utf8_all cs) in
    let fits : nat_le (length (encode_utf8 c)) room ≡ true = le-leb (length (encode_utf8 c)) room (omega (arith, both)) in
    rw (itself c (first_of (is_itself c) _ k), fits)
    (ap (λ t. encode_utf8 c ++ t) (all_fit cs (room - length (encode_utf8 c)) (omega (arith, both)) (second_of (is_itself c) _ k)))

pub shown_whole : (text : List ℕ) → IsUtf8 text → length text ≤ 200 → is_plain text ≡ true → shown text ≡ text
shown_whole text u h k =
    let spelled : encode_utf8_all (chars text) ≡ text = encodes-chars text u in
    all_fit (chars text) 200 (subst (λ t. length t ≤ 200) (sym spelled) h) k ∙ spelled

-- Escapes, character by character.
use lib.Utf8.{encode as encode_utf8, encodes as encode_utf8_all, next}
use Rattle.kc_value.proofs.Common.{◌≡◌, ℕ, ◌+◌, ◌/◌, ◌≤◌, ◌<◌, Bool, true, false, ltb, eqb, ◌⊎◌, inl, inr, List, [], ◌∷◌, ◌++◌, length, drop, get_or, append_assoc, append-nil, refl, ap, sym, ◌∙◌, arith, le-ltb, ltb-false, ltb-true, ne_eqb, drop_more, drop_of_length-le, encode_ascii, IsUtf8, chars}
use Rattle.kc_value.proofs.Common.{unescaped}
use Rattle.std.proofs.lemmas.Str.{chars-encodes}

-- all bytes are 128 or more
abbrev AreHigh : List ℕ → Type 0
AreHigh [] = Unit {0}
AreHigh (b ∷ bs) = (128 ≤ b) × AreHigh bs

-- a character past ASCII is a first byte and others, all of 128 or more
record IsWide (c : ℕ) : Type 0 where
  first : ℕ
  more : List ℕ
  parts : encode_utf8 c ≡ first ∷ more
  high : 128 ≤ first
  all : AreHigh more

parts_of : (c : ℕ) (a b : Bool) → ltb c 2048 ≡ a → ltb c 65536 ≡ b → ltb c 128 ≡ false → IsWide c
unfolding encode_utf8
parts_of c true b e f g = record { first = 192 + c / 64; more = next c ∷ []; parts = rw (g, e) refl; high = omega arith; all = (omega arith, tt) }
parts_of c false true e f g = record {
  first = 224 + c / 4096;
  more = next (c / 64) ∷ next c ∷ [];
  parts = rw (g, e, f) refl;
  high = omega arith;
  all = (omega arith, (omega arith, tt));
}
parts_of c false false e f g = record {
  first = 240 + c / 262144;
  more = next (c / 4096) ∷ next (c / 64) ∷ next c ∷ [];
  parts = rw (g, e, f) refl;
  high = omega arith;
  all = (omega arith, (omega arith, (omega arith, tt)));
}

wide : (c : ℕ) → 128 ≤ c → IsWide c
wide c h = parts_of c (ltb c 2048) (ltb c 65536) refl refl (le-ltb c 128 h)

plain_run : (bs rest : List ℕ) → AreHigh bs → unescaped false (bs ++ rest) ≡ bs ++ unescaped false rest
plain_run [] rest h = refl
plain_run (b ∷ bs) rest h =
    let other : eqb b 92 ≡ false = ne_eqb b 92 (λ e. omega (arith, h.0, e)) in
    rw other (ap (λ t. b ∷ t) (plain_run bs rest h.1))

first_kept : (escaped : Bool) (b : ℕ) (bs rest : List ℕ) → 128 ≤ b → AreHigh bs → unescaped escaped (b ∷ (bs ++ rest)) ≡ b ∷ (bs ++ unescaped false rest)
first_kept true b bs rest h a = ap (λ t. b ∷ t) (plain_run bs rest a)
first_kept false b bs rest h a =
    let other : eqb b 92 ≡ false = ne_eqb b 92 (λ e. omega (arith, h, e)) in
    rw other (ap (λ t. b ∷ t) (plain_run bs rest a))

wide_kept : (escaped : Bool) (c : ℕ) (rest : List ℕ) → IsWide c → unescaped escaped (encode_utf8 c ++ rest) ≡ encode_utf8 c ++ unescaped false rest
wide_kept escaped c rest w = rw w.parts (first_kept escaped w.first w.more rest w.high w.all)

-- a character after a backslash represents itself
pub escaped_char : (c : ℕ) (rest : List ℕ) → unescaped true (encode_utf8 c ++ rest) ≡ encode_utf8 c ++ unescaped false rest
escaped_char c rest = at_size (ltb c 128) refl
  where
    at_size : (b : Bool) → ltb c 128 ≡ b → unescaped true (encode_utf8 c ++ rest) ≡ encode_utf8 c ++ unescaped false rest
    at_size true e = rw (encode_ascii c (ltb-true c 128 e)) refl
    at_size false e = wide_kept true c rest (wide c (ltb-false c 128 e))

-- a character that is no backslash, and follows none, represents itself
pub plain_char : (c : ℕ) (rest : List ℕ) → (c ≡ 92 → ⊥) → unescaped false (encode_utf8 c ++ rest) ≡ encode_utf8 c ++ unescaped false rest
plain_char c rest n = at_size (ltb c 128) refl
  where
    at_size : (b : Bool) → ltb c 128 ≡ b → unescaped false (encode_utf8 c ++ rest) ≡ encode_utf8 c ++ unescaped false rest
    at_size true e = let other : eqb c 92 ≡ false = ne_eqb c 92 n in rw (encode_ascii c (ltb-true c 128 e)) (rw other refl)
    at_size false e = wide_kept false c rest (wide c (ltb-false c 128 e))

pub backslash : (rest : List ℕ) → unescaped false (encode_utf8 92 ++ rest) ≡ unescaped true rest
backslash rest = rw (encode_ascii 92 (omega arith)) refl

-- the encodings of the characters of a text in UTF-8 are its bytes
pub chars_spell : (text : List ℕ) → IsUtf8 text → encode_utf8_all (chars text) ≡ text
chars_spell text u = rw (← u.1.1) (ap encode_utf8_all (chars-encodes u.0 u.1.0))

spelled_from : (cs : List ℕ) (n m c : ℕ) → n < length cs → c ≡ get_or cs n c → m ≡ n + 1 → encode_utf8_all (drop n cs)
    ≡ encode_utf8 c ++ encode_utf8_all (drop m cs)
spelled_from cs n m c h e k = ap encode_utf8_all (drop_more cs n c h) ∙ ap (λ d. encode_utf8 d ++ encode_utf8_all (drop (n + 1) cs)) (sym e)
    ∙ ap (λ i. encode_utf8 c ++ encode_utf8_all (drop i cs)) (sym k)

-- one character on, after the text read before it
module _ (cs read all : List ℕ) (escaped : Bool) (n m c : ℕ) (so_far : read ++ unescaped escaped (encode_utf8_all (drop n cs)) ≡ all) (within : n < length cs)
    (here : c ≡ get_or cs n c) (next_place : m ≡ n + 1) where
  pub step_backslash : c ≡ 92 → escaped ≡ false → read ++ unescaped true (encode_utf8_all (drop m cs)) ≡ all
  step_backslash e f =
      ap (λ t. read ++ t) (sym (backslash (encode_utf8_all (drop m cs))) ∙ ap (λ d. unescaped false (encode_utf8 d ++ encode_utf8_all (drop m cs))) (sym e)
      ∙ ap (unescaped false) (sym (spelled_from cs n m c within here next_place)) ∙ ap (λ b. unescaped b (encode_utf8_all (drop n cs))) (sym f)) ∙ so_far

  char_read : (b : Bool) → b ≡ escaped → (escaped ≡ true) ⊎ (c ≡ 92 → ⊥) → unescaped b (encode_utf8 c ++ encode_utf8_all (drop m cs))
      ≡ encode_utf8 c ++ unescaped false (encode_utf8_all (drop m cs))
  char_read true e h = escaped_char c (encode_utf8_all (drop m cs))
  char_read false e (inr h) = plain_char c (encode_utf8_all (drop m cs)) h
  char_read false e (inl h) = cc

  pub step_char : (more : List ℕ) → more ≡ read ++ encode_utf8 c → (escaped ≡ true) ⊎ (c ≡ 92 → ⊥) → more ++ unescaped false (encode_utf8_all (drop m cs)) ≡ all
  step_char more e h =
      ap (λ t. t ++ unescaped false (encode_utf8_all (drop m cs))) e
      ∙ append_assoc read (encode_utf8 c) (unescaped false (encode_utf8_all (drop m cs)))
      ∙ ap (λ t. read ++ t) (sym (char_read escaped refl h) ∙ ap (unescaped escaped) (sym (spelled_from cs n m c within here next_place)))
      ∙ so_far

-- where no character of a text is left to unescape, the text that was read so far is all
pub step_end : (cs read all : List ℕ) (escaped : Bool) (n : ℕ) → read ++ unescaped escaped (encode_utf8_all (drop n cs)) ≡ all → n ≡ length cs → read ≡ all
step_end cs read all escaped n h e = sym (append-nil read) ∙ ap (λ t. read ++ t)
    (sym (none_left escaped (encode_utf8_all (drop n cs)) (ap encode_utf8_all (drop_of_length-le cs (omega (arith, e)))))) ∙ h
  where
    none_left : (b : Bool) (bs : List ℕ) → bs ≡ [] → unescaped b bs ≡ []
    none_left true bs e = rw e refl
    none_left false bs e = rw e refl

-- the encodings of a text's characters represent between quotes what the text's bytes represent
pub step_start : (text : List ℕ) → IsUtf8 text → unescaped false (encode_utf8_all (chars text)) ≡ unescaped false text
step_start text u = ap (unescaped false) (chars_spell text u)

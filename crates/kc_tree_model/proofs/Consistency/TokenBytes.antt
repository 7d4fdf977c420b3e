-- The tokens of a line that is UTF-8 are UTF-8, and so is the text that a quoted one represents.
use Rattle.std.proofs.Common.{eqb, length-drop, take_at, drop_at}
use Rattle.std.specs.Prelude.{slice_index}
use Rattle.kc_tree_model.proofs.Common.{◌≡◌, ℕ, ◌+◌, ◌-◌, ◌<◌, ◌≤◌, Bool, true, false, ◌&&◌, cond, List, [], ◌∷◌, ◌++◌, length, take, drop, get_or, IsUtf8, Ok, refl, ap, sym, ◌∙◌, subst, append_assoc, length-append, arith, nat_le, list_all, and_parts, eqb-true, eqb-false, leb-true, nat_tests}
use Rattle.kc_tree_model.proofs.Common.{IsUtf8-nil, Language, unescaped, TokenKind, Word, Quoted, Relation, Not, And, Or, Open, Close, between_quotes, quoted_text, Lexeme, lexemes_from, read_cut, AllTexts}
use Rattle.std.proofs.lemmas.Grind.{get_or_after_one}
use Rattle.std.proofs.lemmas.Str.{IsUtf8-append, IsUtf8-encode, IsUtf8-take, IsUtf8-drop, IsCharBoundary-after_ascii, IsCharBoundary-before_ascii}
use Rattle.std.proofs.Math.Seq.{get_or-append_seam}
use lib.Utf8.{scalar, scalars, encode, encodes}
use Rattle.kc_value.proofs.EscapeSteps.{escaped_char, plain_char, backslash}
use Rattle.kc_tokens.specs.declared.token.Relop.TheVariants.{Equal, NotEqual, Less, Greater, LessEqual, GreaterEqual}
use Rattle.kc_tokens.specs.Token.{is_quote, is_white_byte, is_word_byte}
use Rattle.kc_tokens.specs.TokenGrammar.{IsToken, IsCut, ends, comment, white, token}

-- a text that ends in a byte below 128
record EndsLow (text : List ℕ) : Type 0 where
  front : List ℕ
  last : ℕ
  parts : text ≡ front ++ last ∷ []
  low : last < 128

white_low : (c : ℕ) → is_white_byte c ≡ true → c < 128
white_low c h = grind (arith, nat_tests)

word_low : (c : ℕ) → is_word_byte c ≡ true → c < 128
word_low c h = grind (arith, nat_tests)

quote_low : (c : ℕ) → is_quote c ≡ true → c < 128
quote_low c h = grind (arith, nat_tests)

word_ends : (text : List ℕ) → 0 < length text → list_all is_word_byte text ≡ true → EndsLow text
word_ends [] some all = absurd (omega arith)
word_ends (c ∷ []) some all = record { front = []; last = c; parts = refl; low = word_low c (and_parts (is_word_byte c) true all).0 }
word_ends (c ∷ d ∷ cs) some all =
    let rest = word_ends (d ∷ cs) (omega arith) (and_parts (is_word_byte c) (list_all is_word_byte (d ∷ cs)) all).1 in
    record { front = c ∷ rest.front; last = rest.last; parts = ap (λ t. c ∷ t) rest.parts; low = rest.low }

-- each token does
token_ends : (language : Language) (kind : TokenKind) (text : List ℕ) → IsToken language kind text → EndsLow text
token_ends language Word text is = word_ends text is.0 is.1
token_ends language Quoted text is = record { front = is.quote ∷ is.body; last = is.quote; parts = is.parts; low = quote_low is.quote is.sort }
token_ends language (Relation Equal) text is = record { front = []; last = 61; parts = is; low = omega arith }
token_ends language (Relation NotEqual) text is = record { front = 33 ∷ []; last = 61; parts = is; low = omega arith }
token_ends language (Relation Less) text is = record { front = []; last = 60; parts = is; low = omega arith }
token_ends language (Relation Greater) text is = record { front = []; last = 62; parts = is; low = omega arith }
token_ends language (Relation LessEqual) text is = record { front = 60 ∷ []; last = 61; parts = is; low = omega arith }
token_ends language (Relation GreaterEqual) text is = record { front = 62 ∷ []; last = 61; parts = is; low = omega arith }
token_ends language Not text is = record { front = []; last = 33; parts = is; low = omega arith }
token_ends language And text is = record { front = 38 ∷ []; last = 38; parts = is; low = omega arith }
token_ends language Or text is = record { front = 124 ∷ []; last = 124; parts = is; low = omega arith }
token_ends language Open text is = record { front = []; last = 40; parts = is; low = omega arith }
token_ends language Close text is = record { front = []; last = 41; parts = is; low = omega arith }

-- after such a text UTF-8 may be cut
cut_is_utf8 : (text rest : List ℕ) → EndsLow text → IsUtf8 (text ++ rest) → IsUtf8 text × IsUtf8 rest
cut_is_utf8 text rest e u =
    let n = length e.front in
    let whole : text ++ rest ≡ e.front ++ e.last ∷ rest = ap (λ x. x ++ rest) e.parts ∙ append_assoc e.front (e.last ∷ []) rest in
    let here : get_or (text ++ rest) n 0 ≡ e.last = ap (λ x. get_or x (length e.front) 0) whole ∙ get_or-append_seam e.front e.last rest 0 in
    let size : length text ≡ n + 1 = ap length e.parts ∙ length-append e.front (e.last ∷ []) in
    let last_low : e.last < 128 = e.low in
    let cut = IsCharBoundary-after_ascii (text ++ rest) n u (omega (arith, size, length-append text rest)) (omega (arith, here, last_low)) in (
      subst IsUtf8 (take_at text rest (n + 1) size) (IsUtf8-take (text ++ rest) (n + 1) u cut),
      subst IsUtf8 (drop_at text rest (n + 1) size)
          (IsUtf8-drop (text ++ rest) (n + 1) u cut),
    )

utf8_cut : {language : Language} {at : ℕ} {bytes : List ℕ} {ps : List Lexeme} → IsCut language at bytes ps → IsUtf8 bytes → AllTexts IsUtf8 ps
utf8_cut ends u = tt
utf8_cut comment u = tt
utf8_cut (white {c = c} {bytes = bytes} w more) u =
    utf8_cut more (cut_is_utf8 (c ∷ []) bytes (record { front = []; last = c; parts = refl; low = white_low c w }) u).1
utf8_cut {language = language} (token p rest e is longest starts stops more) u =
    let r = cut_is_utf8 p.text rest (token_ends language p.kind p.text is) (subst IsUtf8 e u) in
    (r.0, utf8_cut more r.1)

-- the texts of the tokens of a line that is UTF-8 are UTF-8
pub utf8_tokens : (language : Language) (line : List ℕ) (ts : List Lexeme) → IsUtf8 line → lexemes_from language 0 0 line ≡ Ok ts → AllTexts IsUtf8 ts
utf8_tokens language line ts u h = utf8_cut (read_cut language (length line) 0 line ts (omega arith) h) u

-- and so is what they are without backslashes
utf8_by_chars : (cs : List ℕ) (escaped : Bool) → scalars cs ≡ true → IsUtf8 (unescaped escaped (encodes cs))
utf8_by_chars [] true ok = IsUtf8-nil
utf8_by_chars [] false ok = IsUtf8-nil
utf8_by_chars (c ∷ cs) true ok =
    let p = and_parts (scalar c) (scalars cs) ok in
    subst IsUtf8 (sym (escaped_char c (encodes cs))) (IsUtf8-append (encode c) (unescaped false (encodes cs)) (IsUtf8-encode c p.0)
    (utf8_by_chars cs false p.1))
utf8_by_chars (c ∷ cs) false ok =
    let p = and_parts (scalar c) (scalars cs) ok in
    by_test (eqb c 92) refl (utf8_by_chars cs true p.1) (IsUtf8-append (encode c) (unescaped false (encodes cs)) (IsUtf8-encode c p.0)
    (utf8_by_chars cs false p.1))
  where
    by_test : (b : Bool) → eqb c 92 ≡ b → IsUtf8 (unescaped true (encodes cs)) → IsUtf8 (encode c ++ unescaped false (encodes cs))
        → IsUtf8 (unescaped false (encode c ++ encodes cs))
    by_test true e u v = subst (λ d. IsUtf8 (unescaped false (encode d ++ encodes cs))) (sym (eqb-true c 92 e)) (subst IsUtf8 (sym (backslash (encodes cs))) u)
    by_test false e u v = subst IsUtf8 (sym (plain_char c (encodes cs) (eqb-false c 92 e))) v

utf8_unescaped : (text : List ℕ) → IsUtf8 text → IsUtf8 (unescaped false text)
utf8_unescaped text u = subst (λ t. IsUtf8 (unescaped false t)) u.1.1 (utf8_by_chars u.0 false u.1.0)

utf8_inside : (text : List ℕ) → IsUtf8 text → 2 ≤ length text → get_or text 0 0 < 128 → get_or text (length text - 1) 0 < 128
    → IsUtf8 (take (length text - 2) (drop 1 text))
utf8_inside text u long first last =
    let behind = IsUtf8-drop text 1 u (IsCharBoundary-after_ascii text 0 u (omega arith) first) in
    let there : get_or (drop 1 text) (length text - 2) 0 ≡ get_or text (length text - 1) 0 = get_or_after_one text (length text - 2) 0
    ∙ ap (λ i. get_or text i 0) (let same : 1 + (length text - 2) ≡ length text - 1 = omega arith in same) in
    IsUtf8-take (drop 1 text) (length text - 2) behind (IsCharBoundary-before_ascii (drop 1 text) (length text - 2) (omega (arith, length-drop 1 text))
    (omega (arith, there, last)))

utf8_between : (text : List ℕ) → IsUtf8 text → IsUtf8 (between_quotes text)
utf8_between text u = by_test (nat_le 2 (length text)) (is_quote (slice_index text 0)) (is_quote (slice_index text (length text - 1))) refl refl refl
  where
    by_test : (a b c : Bool) → nat_le 2 (length text) ≡ a → is_quote (slice_index text 0) ≡ b → is_quote (slice_index text (length text - 1)) ≡ c
        → IsUtf8 (cond (a && b && c) (take (length text - 2) (drop 1 text)) text)
    by_test true true true e f g =
        utf8_inside text u (leb-true 2 (length text) e) (quote_low (get_or text 0 0) f) (quote_low (get_or text (length text - 1) 0) g)
    by_test true true false e f g = u
    by_test true false c e f g = u
    by_test false b c e f g = u

pub utf8_quoted : (text : List ℕ) → IsUtf8 text → IsUtf8 (quoted_text text)
utf8_quoted text u = utf8_unescaped (between_quotes text) (utf8_between text u)

-- A quoted path is a pattern where its token's text has one of the bytes of patterns.
use Rattle.std.proofs.Common.{◌-◌, nat_le}
use Rattle.kc_statements.proofs.Common.{◌≡◌, ℕ, suc, ◌+◌, Bool, true, false, ◌==◌, ◌||◌, ◌&&◌, List, [], ◌∷◌, length, get_or, take, refl, ap, sym, ◌∙◌, arith, rules, cond, list_any, take-length, false≢true, nat_tests, is_operand_kind, Lexeme, TokenKind, Word, Quoted, Relation, Not, And, Or, Open}
use Rattle.kc_statements.proofs.Common.{Close, is_glob_path}
use Rattle.std.proofs.Math.Bool.{or-false}
use Rattle.std.proofs.lemmas.List.Folds.{list_any_more}
use Rattle.kc_value.specs.QuotedTexts.{unescaped}
use Rattle.kc_tokens.specs.QuotedTexts.{between_quotes}
use Rattle.kc_tokens.specs.Token.{is_quote}

-- whether a byte makes a path a pattern: `*`, `?` or `[`
abbrev pub is_pattern_byte : ℕ → Bool
is_pattern_byte c = c == 42 || (c == 63) || (c == 91)

-- a byte that is equal to none of them is none
no_pattern : (c d : ℕ) → is_pattern_byte d ≡ false → (c == d) ≡ true → is_pattern_byte c ≡ false
no_pattern c d p e = let q : c ≡ d = search (rules, nat_tests) in rw q p

by_byte : (c : ℕ) (bs : List ℕ) (b : Bool) → (c == 92) ≡ b → list_any is_pattern_byte (unescaped true bs) ≡ list_any is_pattern_byte bs
    → list_any is_pattern_byte (unescaped false bs) ≡ list_any is_pattern_byte bs
    → list_any is_pattern_byte (cond b (unescaped true bs) (c ∷ unescaped false bs)) ≡ list_any is_pattern_byte (c ∷ bs)
by_byte c bs true e t f = t ∙ sym (ap (λ r. r || list_any is_pattern_byte bs) (no_pattern c 92 refl e))
by_byte c bs false e t f = ap (λ r. is_pattern_byte c || r) f

-- taking escapes away takes no byte of patterns away
unescaped_pattern : (escaped : Bool) (bs : List ℕ) → list_any is_pattern_byte (unescaped escaped bs) ≡ list_any is_pattern_byte bs
unescaped_pattern escaped [] = refl
unescaped_pattern true (c ∷ bs) = ap (λ r. is_pattern_byte c || r) (unescaped_pattern false bs)
unescaped_pattern false (c ∷ bs) = by_byte c bs (c == 92) refl (unescaped_pattern true bs) (unescaped_pattern false bs)

-- quotes are none
quote_by : (c : ℕ) (b d : Bool) → (c == 34) ≡ b → (c == 39) ≡ d → (b || d) ≡ true → is_pattern_byte c ≡ false
quote_by c true d e f h = no_pattern c 34 refl e
quote_by c false true e f h = no_pattern c 39 refl f
quote_by c false false e f h = absurd (false≢true h)

quote_none : (c : ℕ) → is_quote c ≡ true → is_pattern_byte c ≡ false
quote_none c h = quote_by c (c == 34) (c == 39) refl refl h

-- the last byte, where it is none
last_none : (xs : List ℕ) (i : ℕ) → length xs ≡ i + 1 → is_pattern_byte (get_or xs i 0) ≡ false
    → list_any is_pattern_byte (take i xs) ≡ list_any is_pattern_byte xs
last_none xs i l n =
    sym (or-false (list_any is_pattern_byte (take i xs))) ∙ sym (ap (λ b. list_any is_pattern_byte (take i xs) || b) n)
    ∙ sym (list_any_more is_pattern_byte xs i 0 (omega (arith, l))) ∙ ap (λ m. list_any is_pattern_byte (take m xs)) (sym l)
    ∙ ap (list_any is_pattern_byte) (take-length xs)

inner : (x : ℕ) (xs : List ℕ) (i : ℕ) → length xs ≡ i + 1 → is_quote x ≡ true → is_quote (get_or xs i 0) ≡ true
    → list_any is_pattern_byte (take i xs) ≡ list_any is_pattern_byte (x ∷ xs)
inner x xs i l first last = last_none xs i l (quote_none (get_or xs i 0) last) ∙ sym (ap (λ b. b || list_any is_pattern_byte xs) (quote_none x first))

-- taking quotes away takes none away
between_by : (x y : ℕ) (zs : List ℕ) (b c d : Bool) → is_quote x ≡ c → is_quote (get_or (x ∷ y ∷ zs) (length (x ∷ y ∷ zs) - 1) 0) ≡ d
    → list_any is_pattern_byte (cond (b && c && d) (take (length (x ∷ y ∷ zs) - 2) (y ∷ zs)) (x ∷ y ∷ zs)) ≡ list_any is_pattern_byte (x ∷ y ∷ zs)
between_by x y zs false c d e f = refl
between_by x y zs true false d e f = refl
between_by x y zs true true false e f = refl
between_by x y zs true true true e f =
    let n : length (x ∷ y ∷ zs) - 2 ≡ length zs = omega arith in
    let m : length (x ∷ y ∷ zs) - 1 ≡ suc (length zs) = omega arith in
    ap (λ k. list_any is_pattern_byte (take k (y ∷ zs))) n
    ∙ inner x (y ∷ zs) (length zs) (omega arith) e (sym (ap (λ k. is_quote (get_or (x ∷ y ∷ zs) k 0)) m) ∙ f)

between_pattern : (text : List ℕ) → list_any is_pattern_byte (between_quotes text) ≡ list_any is_pattern_byte text
between_pattern [] = refl
between_pattern (x ∷ []) = refl
between_pattern (x ∷ y ∷ zs) =
    between_by x y zs (nat_le 2 (length (x ∷ y ∷ zs))) (is_quote x) (is_quote (get_or (x ∷ y ∷ zs) (length (x ∷ y ∷ zs) - 1) 0)) refl refl

-- a path is a pattern where its token's text has such a byte
glob_by : (k : TokenKind) (s e : ℕ) (text : List ℕ) → is_operand_kind k ≡ true
    → is_glob_path (record { kind = k; start = s; stop = e; text = text }) ≡ list_any is_pattern_byte text
glob_by Word s e text h = refl
glob_by Quoted s e text h = unescaped_pattern false (between_quotes text) ∙ between_pattern text
glob_by (Relation op) s e text h = absurd (false≢true h)
glob_by Not s e text h = absurd (false≢true h)
glob_by And s e text h = absurd (false≢true h)
glob_by Or s e text h = absurd (false≢true h)
glob_by Open s e text h = absurd (false≢true h)
glob_by Close s e text h = absurd (false≢true h)

pub glob_reported : (t : Lexeme) → is_operand_kind t.kind ≡ true → is_glob_path t ≡ list_any is_pattern_byte t.text
glob_reported t h = glob_by t.kind t.start t.stop t.text h

-- The tokens that the reader has of a line, and those that the expansion has of it.
use Rattle.std.proofs.Common.{◌-◌, length-append}
use Rattle.std.specs.Prelude.{pred}
use Rattle.kc_expansion.proofs.Common.{◌≡◌, ℕ, suc, ◌+◌, ◌<◌, Bool, true, false, ◌&&◌, ◌||◌, cond, List, [], ◌∷◌, ◌++◌, length, take, get_or, refl, sym, ap, ◌∙◌, subst, append_assoc, arith, ◌==◌, nat_le, list_all, list_any, first_so, second_so, take-append_seam, eqb-true, append-nil}
use Rattle.kc_expansion.proofs.Common.{Language, Strict, Equal, TokenKind, Word, Quoted, Relation, quoted_text, is_operand_kind, Lexeme, is_white_byte, is_word_byte, IsToken, IsLongest, IsCut, comment, white, token, LineToken, line_tokens, neither_first, neither_second}
use Rattle.std.proofs.Math.Seq.{get_or-append_seam}
use Rattle.std.proofs.lemmas.Bool.{le-leb}
use Rattle.kc_value.specs.QuotedTexts.{IsBetweenQuotes, none, plain, pair, unescaped}
use Rattle.kc_value.proofs.QuotedLaws.{body_means}
use Rattle.kc_tokens.specs.declared.language.Language.TheVariants.{Linux}
use Rattle.kc_tokens.specs.declared.token.Relop.TheVariants.{NotEqual, Less, Greater, LessEqual, GreaterEqual}
use Rattle.kc_tokens.specs.declared.token.TokenKind.TheVariants.{Not, And, Or, Open, Close}
use Rattle.kc_tokens.specs.QuotedTexts.{between_quotes}
use Rattle.kc_tokens.specs.Token.{is_quote}
use Rattle.kc_tokens.specs.TokenGrammar.{HasDollarsInPairs, other as unpaired, paired, HasDollarsOf, ends}
use Rattle.kc_macros_model.specs.References.{item_bytes, items}
use Rattle.kc_macros_model.specs.LineTokens.{trivia, run, quoted, other, token_bytes, extent, is_run_byte, run_token, quoted_token, first_token}
use Rattle.kc_macros_model.specs.PlainLines.{is_kept_item, has_dollar, text_of_items}
use Rattle.kc_macros_model.proofs.PlainTokens.{all_kept}
use Rattle.kc_macros_model.proofs.SecondExpansions.{other_byte, no_dollars, word_first, first_word, quoted_first}
use Rattle.kc_macros_model.proofs.QuotedTexts.{IsQuotedText, body_none, body_byte, body_pair, byte_first, body_items}
use Rattle.kc_macros_model.proofs.TokenCuts.{ends_run, begins_with_run, AreWordBytes, no_word_bytes, next_word_byte, IsQuote, double_quote, single_quote}
use Rattle.kc_macros_model.proofs.TokensOfLines.{tokens_passed}

-- the tokens of the reader and those of the expansion are of the same line, where an operator of the reader is one byte or two in
-- the expansion
pub data AreRead : List Lexeme → List LineToken → Type 0 where
  none_read : AreRead [] []
  trivia_read : {s : List ℕ} {ps : List Lexeme} {ts : List LineToken} → AreRead ps ts → AreRead ps (trivia s ∷ ts)
  word_read : {p : Lexeme} {ps : List Lexeme} {ts : List LineToken} → p.kind ≡ Word → has_dollar p.text ≡ false → AreRead ps ts
      → AreRead (p ∷ ps) (run p.text ∷ ts)
  quoted_read : {p : Lexeme} {ps : List Lexeme} {ts : List LineToken} (quote : ℕ) (s : List ℕ) → p.kind ≡ Quoted → list_all is_kept_item (items true 0 s) ≡ true
      → text_of_items (items true 0 s) ≡ quoted_text p.text → AreRead ps ts
      → AreRead (p ∷ ps) (quoted quote s ∷ ts)
  operator_read : {p : Lexeme} {ps : List Lexeme} {ts : List LineToken} (c : ℕ) → is_operand_kind p.kind ≡ false → AreRead ps ts
      → AreRead (p ∷ ps) (other (c ∷ []) ∷ ts)
  long_operator_read : {p : Lexeme} {ps : List Lexeme} {ts : List LineToken} (c d : ℕ) → is_operand_kind p.kind ≡ false → AreRead ps ts
      → AreRead (p ∷ ps) (other (c ∷ []) ∷ (other (d ∷ []) ∷ ts))

-- a token at the front
front_tokens : (c : ℕ) (more y : List ℕ) (t : LineToken) → first_token c (more ++ y) ≡ t → token_bytes t ≡ c ∷ more
    → line_tokens 0 (c ∷ (more ++ y)) ≡ t ∷ line_tokens 0 y
front_tokens c more y t first bytes =
    ap (λ t. t ∷ line_tokens (pred (length (token_bytes t))) (more ++ y)) first
    ∙ ap (λ m. t ∷ line_tokens (pred (length m)) (more ++ y)) bytes
    ∙ ap (λ ts. t ∷ ts) (tokens_passed more y)

comment_tokens : (s : List ℕ) → line_tokens 0 (35 ∷ s) ≡ trivia (35 ∷ s) ∷ []
comment_tokens s = ap (λ ts. trivia (35 ∷ s) ∷ ts) (ap (λ x. line_tokens (length s) x) (sym (append-nil s)) ∙ tokens_passed s [])

white_tokens : (c : ℕ) (s : List ℕ) → is_white_byte c ≡ true → line_tokens 0 (c ∷ s) ≡ trivia (c ∷ []) ∷ line_tokens 0 s
white_tokens c s h =
    let as_run = cond (is_run_byte c) (run_token (take (extent false ends_run 0 (c ∷ s)) (c ∷ s)))
    (cond (c == 34 || (c == 39)) (quoted_token (extent true (λ d. d == c) 0 s) c s) (other (c ∷ []))) in
    front_tokens c [] s (trivia (c ∷ [])) (ap (λ b. cond b (trivia (c ∷ [])) (cond (c == 35) (trivia (c ∷ s)) as_run)) h) refl

-- words
word_bytes : (s : List ℕ) → list_all is_word_byte s ≡ true → AreWordBytes s
word_bytes [] e = no_word_bytes
word_bytes (c ∷ s) e =
    let word : is_word_byte c ≡ true = first_so (is_word_byte c) (list_all is_word_byte s) e in
    next_word_byte (ap (λ b. b || (c == 36)) word) (other_byte c 36 is_word_byte word refl)
    (word_bytes s (second_so (is_word_byte c) (list_all is_word_byte s) e))

word_tokens : (s y : List ℕ) → 0 < length s → AreWordBytes s → begins_with_run y ≡ false → line_tokens 0 (s ++ y) ≡ run s ∷ line_tokens 0 y
word_tokens [] y some h n = absurd (omega (arith, some))
word_tokens (c ∷ s) y some h n = front_tokens c s y (run (c ∷ s)) (word_first c s y h (first_word h) n) refl

-- quoted texts
quoted_tokens : {q : ℕ} → IsQuote q → (s y : List ℕ) → IsQuotedText q s → line_tokens 0 ((q ∷ (s ++ q ∷ [])) ++ y) ≡ quoted q s ∷ line_tokens 0 y
quoted_tokens double_quote s y h = front_tokens 34 (s ++ 34 ∷ []) y (quoted 34 s) (ap (λ z. first_token 34 z) (append_assoc s (34 ∷ []) y)
    ∙ quoted_first 34 s y refl refl h) refl
quoted_tokens single_quote s y h = front_tokens 39 (s ++ 39 ∷ []) y (quoted 39 s) (ap (λ z. first_token 39 z) (append_assoc s (39 ∷ []) y)
    ∙ quoted_first 39 s y refl refl h) refl

quote_of : (q : ℕ) → is_quote q ≡ true → IsQuote q
quote_of q h = by_test (q == 34) (q == 39) refl refl h
  where
    by_test : (a b : Bool) → (q == 34) ≡ a → (q == 39) ≡ b → (a || b) ≡ true → IsQuote q
    by_test true b e f h = subst IsQuote (sym (eqb-true q 34 e)) double_quote
    by_test false true e f h = subst IsQuote (sym (eqb-true q 39 f)) single_quote
    by_test false false e f h = let z : ⊥ = cc in absurd z

-- the body of a quoted token
body_in_pairs : {q : ℕ} {body means : List ℕ} → IsBetweenQuotes q body means → HasDollarsInPairs body → IsQuotedText q body
body_in_pairs none d = body_none
body_in_pairs (plain a b r) (unpaired c d h) = body_byte a b c (body_in_pairs r h)
body_in_pairs (plain a b r) (paired h) = let z : ⊥ = cc in absurd z
body_in_pairs (pair r) (unpaired c d h) = let z : ⊥ = cc in absurd z
body_in_pairs (pair r) (paired h) = body_pair (body_in_pairs r h)

body_without : {q : ℕ} {body means : List ℕ} → IsBetweenQuotes q body means → list_any (λ c. c == 36) body ≡ false → IsQuotedText q body
body_without none d = body_none
body_without (plain {c = c} {bs = bs} a b r) d = body_byte a b (neither_first (c == 36) (list_any (λ c. c == 36) bs) d)
    (body_without r (neither_second (c == 36) (list_any (λ c. c == 36) bs) d))
body_without (pair {c = c} {bs = bs} r) d = body_pair (body_without r (neither_second (c == 36) (list_any (λ c. c == 36) bs) d))

body_of_quoted : (language : Language) {q : ℕ} {body means : List ℕ} → IsBetweenQuotes q body means → HasDollarsOf language body → IsQuotedText q body
body_of_quoted Strict b d = body_without b d
body_of_quoted (Linux version) b d = body_in_pairs b d

body_text : {q : ℕ} {body means : List ℕ} → IsBetweenQuotes q body means → IsQuotedText q body → text_of_items (items true 0 body) ≡ means
body_text none d = refl
body_text (plain {c = c} {bs = bs} a b r) (body_byte x y z h) = ap (λ i. text_of_items (i ∷ items true (pred (length (item_bytes i))) bs))
    (byte_first true c bs z y) ∙ ap (λ t. c ∷ t) (body_text r h)
body_text (plain a b r) (body_pair h) = let z : ⊥ = cc in absurd z
body_text (pair r) (body_byte x y z h) = let u : ⊥ = cc in absurd u
body_text (pair {c = c} r) (body_pair h) = ap (λ t. c ∷ t) (body_text r h)

quoted_means : {q : ℕ} → IsQuote q → (body means : List ℕ) → IsBetweenQuotes q body means → quoted_text (q ∷ (body ++ q ∷ [])) ≡ means
quoted_means {q = q} quote body means b = ap (unescaped false) (between q quote) ∙ body_means q body means b
  where
    between : (q : ℕ) → IsQuote q → between_quotes (q ∷ (body ++ q ∷ [])) ≡ body
    between q quote =
        let size : length (body ++ q ∷ []) ≡ length body + 1 = length-append body (q ∷ []) in
        let some : nat_le 2 (length (q ∷ (body ++ q ∷ []))) ≡ true = le-leb 2 (length (q ∷ (body ++ q ∷ []))) (omega (arith, size)) in
        let last_at : length (q ∷ (body ++ q ∷ [])) - 1 ≡ suc (length body) = omega (arith, size) in
        let two_less : length (q ∷ (body ++ q ∷ [])) - 2 ≡ length body = omega (arith, size) in
        let last : get_or (q ∷ (body ++ q ∷ [])) (length (q ∷ (body ++ q ∷ [])) - 1) 0 ≡ q = ap (λ n. get_or (q ∷ (body ++ q ∷ [])) n 0) last_at
        ∙ get_or-append_seam body q [] 0 in
        let inside = take (length (q ∷ (body ++ q ∷ [])) - 2) (body ++ q ∷ []) in
        ap (λ b. cond (b && is_quote q && is_quote (get_or (q ∷ (body ++ q ∷ [])) (length (q ∷ (body ++ q ∷ [])) - 1) 0)) inside (q ∷ (body ++ q ∷ []))) some
        ∙ ap (λ c. cond (true && is_quote q && is_quote c) inside (q ∷ (body ++ q ∷ []))) last
        ∙ of_quote quote inside (q ∷ (body ++ q ∷ []))
        ∙ ap (λ n. take n (body ++ q ∷ [])) two_less
        ∙ take-append_seam body (q ∷ [])
      where
        of_quote : {q : ℕ} → IsQuote q → (x y : List ℕ) → cond (true && is_quote q && is_quote q) x y ≡ x
        of_quote double_quote x y = refl
        of_quote single_quote x y = refl

-- the bytes after a word begin no run
abbrev begins_with_word : List ℕ → Bool
begins_with_word [] = false
begins_with_word (c ∷ s) = is_word_byte c

abbrev begins_with_dollar : List ℕ → Bool
begins_with_dollar [] = false
begins_with_dollar (c ∷ s) = c == 36

no_run_first : (s : List ℕ) → begins_with_word s ≡ false → begins_with_dollar s ≡ false → begins_with_run s ≡ false
no_run_first [] e f = refl
no_run_first (c ∷ s) e f = ap (λ b. b || (c == 36)) e ∙ f

word_ends : (language : Language) (text rest : List ℕ) → 0 < length text → list_all is_word_byte text ≡ true → IsLongest language text (text ++ rest)
    → begins_with_word rest ≡ false
word_ends language text [] some all long = refl
word_ends language text (d ∷ ds) some all long = by_test (is_word_byte d) refl
  where
    all_more : (s : List ℕ) → list_all is_word_byte s ≡ true → is_word_byte d ≡ true → list_all is_word_byte (s ++ d ∷ []) ≡ true
    all_more [] e f = ap (λ b. b && true) f
    all_more (c ∷ s) e f = ap (λ b. b && list_all is_word_byte (s ++ d ∷ [])) (first_so (is_word_byte c) (list_all is_word_byte s) e)
        ∙ all_more s (second_so (is_word_byte c) (list_all is_word_byte s) e) f

    by_test : (b : Bool) → is_word_byte d ≡ b → b ≡ false
    by_test false e = refl
    by_test true e =
        let size = length-append text (d ∷ []) in
        let up = long Word (text ++ d ∷ []) ds (sym (append_assoc text (d ∷ []) ds)) (omega (arith, size), all_more text all e) in
        absurd (omega (arith, up, size))

dollar_by : {x y : List ℕ} → x ≡ y → begins_with_dollar y ≡ false → begins_with_dollar x ≡ false
dollar_by e h = ap begins_with_dollar e ∙ h

no_dollar_token : (language : Language) (k : TokenKind) (text rest : List ℕ) → IsToken language k text → begins_with_dollar (text ++ rest) ≡ false
no_dollar_token language Word [] rest is = absurd (omega (arith, is.0))
no_dollar_token language Word (c ∷ s) rest is = other_byte c 36 is_word_byte (first_so (is_word_byte c) (list_all is_word_byte s) is.1) refl
no_dollar_token language Quoted text rest is = dollar_by (ap (λ x. x ++ rest) is.parts) (other_byte is.quote 36 is_quote is.sort refl)
no_dollar_token language (Relation Equal) text rest is = dollar_by (ap (λ x. x ++ rest) is) refl
no_dollar_token language y text rest is = dollar_by (ap (λ x. x ++ rest) is) refl

no_dollar_front : (language : Language) (at : ℕ) (s : List ℕ) (ps : List Lexeme) → IsCut language at s ps → begins_with_dollar s ≡ false
no_dollar_front language at s ps ends = refl
no_dollar_front language at s ps comment = refl
no_dollar_front language at s ps (white {c = c} h x) = other_byte c 36 is_white_byte h refl
no_dollar_front language at s ps (token p rest parts is long start stop x) = dollar_by parts (no_dollar_token language p.kind p.text rest is)

-- a token of the reader in front of others
module _ (language : Language) (p : Lexeme) (ps : List Lexeme) (rest : List ℕ) (after : AreRead ps (line_tokens 0 rest)) where
  by_tokens : {s : List ℕ} {ts : List LineToken} → p.text ≡ s → line_tokens 0 (s ++ rest) ≡ ts → AreRead (p ∷ ps) ts
      → AreRead (p ∷ ps) (line_tokens 0 (p.text ++ rest))
  by_tokens e f h = subst (AreRead (p ∷ ps)) (sym (ap (λ x. line_tokens 0 (x ++ rest)) e ∙ f)) h

  one_byte : (k : TokenKind) (c : ℕ) → p.kind ≡ k → is_operand_kind k ≡ false → AreRead (p ∷ ps) (other (c ∷ []) ∷ line_tokens 0 rest)
  one_byte k c e h = operator_read c (ap is_operand_kind e ∙ h) after

  two_bytes : (k : TokenKind) (c d : ℕ) → p.kind ≡ k → is_operand_kind k ≡ false → AreRead (p ∷ ps) (other (c ∷ []) ∷ (other (d ∷ []) ∷ line_tokens 0 rest))
  two_bytes k c d e h = long_operator_read c d (ap is_operand_kind e ∙ h) after

  token_in_front : (k : TokenKind) → p.kind ≡ k → IsToken language k p.text → IsLongest language p.text (p.text ++ rest) → begins_with_dollar rest ≡ false
      → AreRead (p ∷ ps) (line_tokens 0 (p.text ++ rest))
  token_in_front Word e is long no_dollar =
      let words = word_bytes p.text is.1 in
      by_tokens refl (word_tokens p.text rest is.0 words (no_run_first rest (word_ends language p.text rest is.0 is.1 long) no_dollar))
      (word_read e (no_dollars words) after)
  token_in_front Quoted e is long no_dollar =
      let quote = quote_of is.quote is.sort in
      let body = body_of_quoted language is.is_between_quotes is.dollars in
      by_tokens is.parts (quoted_tokens quote is.body rest body) (quoted_read is.quote is.body e (all_kept (body_items body))
      (body_text is.is_between_quotes body ∙ sym (ap quoted_text is.parts ∙ quoted_means quote is.body is.means is.is_between_quotes)) after)
  token_in_front (Relation Equal) e is long no_dollar = by_tokens is refl (one_byte (Relation Equal) 61 e refl)
  token_in_front (Relation NotEqual) e is long no_dollar = by_tokens is refl (two_bytes (Relation NotEqual) 33 61 e refl)
  token_in_front (Relation Less) e is long no_dollar = by_tokens is refl (one_byte (Relation Less) 60 e refl)
  token_in_front (Relation Greater) e is long no_dollar = by_tokens is refl (one_byte (Relation Greater) 62 e refl)
  token_in_front (Relation LessEqual) e is long no_dollar = by_tokens is refl (two_bytes (Relation LessEqual) 60 61 e refl)
  token_in_front (Relation GreaterEqual) e is long no_dollar = by_tokens is refl (two_bytes (Relation GreaterEqual) 62 61 e refl)
  token_in_front Not e is long no_dollar = by_tokens is refl (one_byte Not 33 e refl)
  token_in_front And e is long no_dollar = by_tokens is refl (two_bytes And 38 38 e refl)
  token_in_front Or e is long no_dollar = by_tokens is refl (two_bytes Or 124 124 e refl)
  token_in_front Open e is long no_dollar = by_tokens is refl (one_byte Open 40 e refl)
  token_in_front Close e is long no_dollar = by_tokens is refl (one_byte Close 41 e refl)

-- the tokens into which the reader cuts a line without a fault are those of the expansion
pub cut_tokens : (language : Language) (at : ℕ) (s : List ℕ) (ps : List Lexeme) → IsCut language at s ps → AreRead ps (line_tokens 0 s)
cut_tokens language at s ps ends = none_read
cut_tokens language at s ps (comment {bytes = bs}) = subst (AreRead []) (sym (comment_tokens bs)) (trivia_read none_read)
cut_tokens language at s ps (white {c = c} {bytes = bs} h x) = subst (AreRead ps) (sym (white_tokens c bs h)) (trivia_read (cut_tokens language (at + 1) bs ps x))
cut_tokens language at s ps (token {ps = qs} p rest parts is long start stop x) =
    subst (λ y. AreRead (p ∷ qs) (line_tokens 0 y)) (sym parts)
    (token_in_front language p qs rest (cut_tokens language p.stop rest qs x) p.kind refl is (subst (IsLongest language p.text) parts long)
    (no_dollar_front language p.stop rest qs x))

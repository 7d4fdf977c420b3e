-- The tokens of a line are those of the token language.
use Rattle.kc_tokens.proofs.Common.{◌≡◌, ℕ, suc, ◌+◌, ◌<◌, ◌≤◌, ◌⊎◌, inl, inr, Bool, true, false, eqb, cond, List, [], ◌∷◌, ◌++◌, length, take, drop, get_or, Some, None, Ok, refl, ap, sym, ◌∙◌, subst, append_assoc, length-append, arith, take_while, list_all, and_parts, eqb-true, nat_tests}
use Rattle.kc_tokens.proofs.Common.{take_while-cons, take-append_seam, closing, body_closes, Language, White, Comment, Token, Equal, NotEqual, Less, Greater, LessEqual, GreaterEqual, TokenKind, Word, Quoted, Relation, Not, And, Or, Open, Close, with_front, is_quote, Lexeme, is_white_byte}
use Rattle.kc_tokens.proofs.Common.{is_word_byte, dollar_left_out, quoted_up_to, quoted_or_left_out, lexemes_from, IsQuotedToken, IsToken, IsLongest, IsCut, ends, comment, white, token}
use Rattle.std.proofs.lemmas.Bool.{or_cases}
use Rattle.std.proofs.Math.Seq.{drop-append_seam}
use Rattle.kc_tokens.specs.Token.{next_token}
use Rattle.kc_tokens.proofs.Dollars.{none_left_out}
use Rattle.kc_tokens.proofs.TokenSteps.{lexemes_white, lexemes_comment, lexemes_token, word_run}

-- a byte of words is no white byte
pub word_no_white : (c : ℕ) → is_word_byte c ≡ true → is_white_byte c ≡ false
word_no_white c h = grind (arith, nat_tests)

pub word_no_hash : (c : ℕ) → is_word_byte c ≡ true → eqb c 35 ≡ false
word_no_hash c h = grind (arith, nat_tests)

quote_is : (c : ℕ) → is_quote c ≡ true → (c ≡ 34) ⊎ (c ≡ 39)
quote_is c h = by_or (or_cases (eqb c 34) (eqb c 39) h)
  where
    by_or : (eqb c 34 ≡ true) ⊎ (eqb c 39 ≡ true) → (c ≡ 34) ⊎ (c ≡ 39)
    by_or (inl e) = inl (eqb-true c 34 e)
    by_or (inr e) = inr (eqb-true c 39 e)

-- the longest front of word bytes consists of word bytes
pub run_all : (bs : List ℕ) → list_all is_word_byte (take_while is_word_byte bs) ≡ true
run_all [] = refl
run_all (b ∷ bs) = rw take_while-cons (by_test (is_word_byte b) refl (run_all bs))
  where
    by_test : (t : Bool) → is_word_byte b ≡ t → list_all is_word_byte (take_while is_word_byte bs) ≡ true
        → list_all is_word_byte (cond t (b ∷ take_while is_word_byte bs) []) ≡ true
    by_test true e h = rw e h
    by_test false e h = refl

pub front_run : (front rest : List ℕ) → list_all is_word_byte front ≡ true → length front ≤ length (take_while is_word_byte (front ++ rest))
front_run [] rest h = omega arith
front_run (c ∷ cs) rest h =
    let (w, r) = and_parts (is_word_byte c) (list_all is_word_byte cs) h in
    let ih = front_run cs rest r in
    rw (take_while-cons is_word_byte c (cs ++ rest), w) (omega (arith, ih))

pub run_front : (bs : List ℕ) → bs ≡ take_while is_word_byte bs ++ drop (length (take_while is_word_byte bs)) bs
run_front [] = refl
run_front (b ∷ bs) = rw take_while-cons (by_test (is_word_byte b) (run_front bs))
  where
    by_test : (t : Bool) → bs ≡ take_while is_word_byte bs ++ drop (length (take_while is_word_byte bs)) bs
        → b ∷ bs ≡ cond t (b ∷ take_while is_word_byte bs) [] ++ drop (length (cond t (b ∷ take_while is_word_byte bs) [])) (b ∷ bs)
    by_test true h = ap (λ xs. b ∷ xs) h
    by_test false h = refl

-- the token at the front, where the language has one there
lead_word : (language : Language) (c : ℕ) (bs : List ℕ) → is_word_byte c ≡ true → next_token language (c ∷ bs)
    ≡ Token Word (length (take_while is_word_byte (c ∷ bs)))
unfolding next_token
lead_word language c bs h = let a = word_no_white c h in let b = word_no_hash c h in rw (a, b, h) refl

pub lead_quoted : (language : Language) (q : ℕ) (bs : List ℕ) → is_quote q ≡ true → next_token language (q ∷ bs)
    ≡ quoted_up_to language (q ∷ bs) (closing q false bs)
unfolding next_token
lead_quoted language q bs h = by_sort (quote_is q h)
  where
    by_sort : (q ≡ 34) ⊎ (q ≡ 39) → next_token language (q ∷ bs) ≡ quoted_up_to language (q ∷ bs) (closing q false bs)
    by_sort (inl e) = rw e refl
    by_sort (inr e) = rw e refl

pub quote_facts : (q : ℕ) → is_quote q ≡ true → (eqb 92 q ≡ false) × (eqb q 36 ≡ false) × (is_word_byte q ≡ false)
quote_facts q h = by_sort (quote_is q h)
  where
    by_sort : (q ≡ 34) ⊎ (q ≡ 39) → (eqb 92 q ≡ false) × (eqb q 36 ≡ false) × (is_word_byte q ≡ false)
    by_sort (inl e) = rw e (refl, refl, refl)
    by_sort (inr e) = rw e (refl, refl, refl)

pub quote_no_slash : (q : ℕ) → is_quote q ≡ true → eqb q 92 ≡ false
quote_no_slash q h = by_sort (quote_is q h)
  where
    by_sort : (q ≡ 34) ⊎ (q ≡ 39) → eqb q 92 ≡ false
    by_sort (inl e) = rw e refl
    by_sort (inr e) = rw e refl

pub quoted_lead : (language : Language) (text rest : List ℕ) → IsQuotedToken language text → next_token language (text ++ rest) ≡ Token Quoted (length text)
quoted_lead language text rest t =
    let (slash, dollar, word) = quote_facts t.quote t.sort in
    let whole : List ℕ = t.quote ∷ (t.body ++ t.quote ∷ []) in
    let close : closing t.quote false ((t.body ++ t.quote ∷ []) ++ rest) ≡ Some (suc (length t.body)) =
    ap (closing t.quote false) (append_assoc t.body (t.quote ∷ []) rest) ∙ body_closes t.quote t.body t.means rest slash t.is_between_quotes in
    let size : suc (length t.body) + 1 ≡ length whole = omega (arith, length-append t.body (t.quote ∷ [])) in
    let none : dollar_left_out language (take (suc (length t.body) + 1) (whole ++ rest)) ≡ None =
    ap (λ n. dollar_left_out language (take n (whole ++ rest))) size ∙ ap (dollar_left_out language) (take-append_seam whole rest)
    ∙ none_left_out t.quote t.body dollar (quote_no_slash t.quote t.sort) language t.dollars in
    let lead : next_token language (whole ++ rest) ≡ Token Quoted (length whole) =
    lead_quoted language t.quote ((t.body ++ t.quote ∷ []) ++ rest) t.sort
    ∙ ap (quoted_up_to language (whole ++ rest)) close
    ∙ ap (quoted_or_left_out (suc (length t.body) + 1)) none
    ∙ ap (Token Quoted) size in
    subst (λ x. next_token language (x ++ rest) ≡ Token Quoted (length x)) (sym t.parts) lead

-- where no longer operator fits, the second byte is another
second_by : (language : Language) (a c : ℕ) (cs : List ℕ) (b : Bool) (k : TokenKind) → IsToken language k (a ∷ 61 ∷ [])
    → IsLongest language (a ∷ []) (a ∷ c ∷ cs) → eqb c 61 ≡ b → b ≡ false
second_by language a c cs false k is long e = refl
second_by language a c cs true k is long e = absurd (let l = long k (a ∷ 61 ∷ []) cs (ap (λ d. a ∷ d ∷ cs) (eqb-true c 61 e)) is in omega (arith, l))

second : (language : Language) (a : ℕ) (rest : List ℕ) (k : TokenKind) → IsToken language k (a ∷ 61 ∷ []) → IsLongest language (a ∷ []) (a ∷ rest)
    → eqb (get_or rest 0 0) 61 ≡ false
second language a [] k is long = refl
second language a (c ∷ cs) k is long = second_by language a c cs (eqb c 61) k is long refl

operator_lead : (language : Language) (k : TokenKind) (rest : List ℕ) → (k ≡ Word → ⊥) → (k ≡ Quoted → ⊥) → (text : List ℕ) → IsToken language k text
    → IsLongest language text (text ++ rest) → next_token language (text ++ rest) ≡ Token k (length text)
unfolding next_token
operator_lead language Word rest w q text is long = absurd (w refl)
operator_lead language Quoted rest w q text is long = absurd (q refl)
operator_lead language (Relation Equal) rest w q text is long = rw is refl
operator_lead language (Relation NotEqual) rest w q text is long = rw is refl
operator_lead language (Relation LessEqual) rest w q text is long = rw is refl
operator_lead language (Relation GreaterEqual) rest w q text is long = rw is refl
operator_lead language And rest w q text is long = rw is refl
operator_lead language Or rest w q text is long = rw is refl
operator_lead language Open rest w q text is long = rw is refl
operator_lead language Close rest w q text is long = rw is refl
operator_lead language (Relation Less) rest w q text is long =
    let f = second language 60 rest (Relation LessEqual) refl (subst (λ x. IsLongest language x (x ++ rest)) is long) in
    rw is (rw f refl)
operator_lead language (Relation Greater) rest w q text is long =
    let f = second language 62 rest (Relation GreaterEqual) refl (subst (λ x. IsLongest language x (x ++ rest)) is long) in
    rw is (rw f refl)
operator_lead language Not rest w q text is long =
    let f = second language 33 rest (Relation NotEqual) refl (subst (λ x. IsLongest language x (x ++ rest)) is long) in
    rw is (rw f refl)

word_lead : (language : Language) (text rest : List ℕ) → IsToken language Word text → IsLongest language text (text ++ rest)
    → next_token language (text ++ rest) ≡ Token Word (length text)
word_lead language [] rest is long = absurd (omega (arith, is.0))
word_lead language (c ∷ cs) rest is long =
    let (w, r) = and_parts (is_word_byte c) (list_all is_word_byte cs) is.1 in
    let run = take_while is_word_byte (c ∷ (cs ++ rest)) in
    let some : 0 < length run = word_run (c ∷ (cs ++ rest)) (omega arith) w in
    let up = long Word run (drop (length run) (c ∷ (cs ++ rest))) (run_front (c ∷ (cs ++ rest))) (some, run_all (c ∷ (cs ++ rest))) in
    let down = front_run (c ∷ cs) rest is.1 in
    lead_word language c (cs ++ rest) w ∙ ap (Token Word) (let q : length run ≡ length (c ∷ cs) = omega (arith, up, down) in q)

token_lead : (language : Language) (k : TokenKind) (text rest : List ℕ) → IsToken language k text → IsLongest language text (text ++ rest)
    → next_token language (text ++ rest) ≡ Token k (length text)
token_lead language Word text rest is long = word_lead language text rest is long
token_lead language Quoted text rest is long = quoted_lead language text rest is
token_lead language (Relation op) text rest is long = operator_lead language (Relation op) rest (λ e. cc) (λ e. cc) text is long
token_lead language Not text rest is long = operator_lead language Not rest (λ e. cc) (λ e. cc) text is long
token_lead language And text rest is long = operator_lead language And rest (λ e. cc) (λ e. cc) text is long
token_lead language Or text rest is long = operator_lead language Or rest (λ e. cc) (λ e. cc) text is long
token_lead language Open text rest is long = operator_lead language Open rest (λ e. cc) (λ e. cc) text is long
token_lead language Close text rest is long = operator_lead language Close rest (λ e. cc) (λ e. cc) text is long

-- the text of a token has at least one byte
pub first_byte : (language : Language) (k : TokenKind) (text : List ℕ) → IsToken language k text → (c : ℕ) × (cs : List ℕ) × (text ≡ c ∷ cs)
first_byte language Word [] is = absurd (omega (arith, is.0))
first_byte language Word (c ∷ cs) is = (c, cs, refl)
first_byte language Quoted text is = (is.quote, is.body ++ is.quote ∷ [], is.parts)
first_byte language (Relation Equal) text is = (61, [], is)
first_byte language (Relation NotEqual) text is = (33, 61 ∷ [], is)
first_byte language (Relation Less) text is = (60, [], is)
first_byte language (Relation Greater) text is = (62, [], is)
first_byte language (Relation LessEqual) text is = (60, 61 ∷ [], is)
first_byte language (Relation GreaterEqual) text is = (62, 61 ∷ [], is)
first_byte language Not text is = (33, [], is)
first_byte language And text is = (38, 38 ∷ [], is)
first_byte language Or text is = (124, 124 ∷ [], is)
first_byte language Open text is = (40, [], is)
first_byte language Close text is = (41, [], is)

-- the token of a kind and a text that begins at a place of a line
abbrev pub token_at : ℕ → TokenKind → List ℕ → Lexeme
token_at at kind text = record { kind = kind; start = at; stop = at + length text; text = text }

-- where a token's text and a rest follow each other in a line, the token is read and then the tokens of the rest
abbrev pub AreRead : Language → ℕ → TokenKind → (text rest : List ℕ) → Type 0
AreRead language at kind text rest =
    lexemes_from language 0 at (text ++ rest) ≡ with_front (token_at at kind text ∷ []) (lexemes_from language 0 (at + length text) rest)

pub token_read : (language : Language) (at : ℕ) (kind : TokenKind) (text rest : List ℕ) → IsToken language kind text → IsLongest language text (text ++ rest)
    → AreRead language at kind text rest
token_read language at kind text rest is long = by_first (first_byte language kind text is)
  where
    by_first : (c : ℕ) × (cs : List ℕ) × (text ≡ c ∷ cs) → AreRead language at kind text rest
    by_first (c, cs, e) =
        let begins : text ++ rest ≡ c ∷ (cs ++ rest) = ap (λ x. x ++ rest) e in
        let lead : next_token language (c ∷ (cs ++ rest)) ≡ Token kind (suc (length cs)) =
        sym (ap (next_token language) begins) ∙ token_lead language kind text rest is long ∙ ap (Token kind) (ap length e) in
        let after = lexemes_from language 0 (at + suc (length cs)) (drop (length cs) (cs ++ rest)) in
        let read : AreRead language at kind (c ∷ cs) rest =
        lexemes_token language at c (cs ++ rest) kind (length cs) lead
        ∙ ap (λ x. with_front (record { kind = kind; start = at; stop = at + suc (length cs); text = c ∷ x } ∷ []) after) (take-append_seam cs rest)
        ∙ ap (λ x. with_front (token_at at kind (c ∷ cs) ∷ []) (lexemes_from language 0 (at + suc (length cs)) x)) (drop-append_seam cs rest) in
        subst (λ x. AreRead language at kind x rest) (sym e) read

pub white_lead : (language : Language) (c : ℕ) (bs : List ℕ) → is_white_byte c ≡ true → next_token language (c ∷ bs) ≡ White
unfolding next_token
white_lead language c bs h = rw h refl

hash_lead : (language : Language) (bs : List ℕ) → next_token language (35 ∷ bs) ≡ Comment
unfolding next_token
hash_lead language bs = refl

-- a line that the token language cuts into tokens is read as these tokens
pub cut_read : (language : Language) (at : ℕ) (bytes : List ℕ) (ps : List Lexeme) → IsCut language at bytes ps → lexemes_from language 0 at bytes ≡ Ok ps
cut_read language at bytes ps ends = refl
cut_read language at bytes ps (comment {bytes = bs}) = lexemes_comment language at 35 bs (hash_lead language bs)
cut_read language at bytes ps (white {c = c} {bytes = bs} h x) = lexemes_white language at c bs (white_lead language c bs h)
    ∙ cut_read language (at + 1) bs ps x
cut_read language at bytes ps (token {ps = qs} p rest parts is long start stop x) =
    let read = token_read language at p.kind p.text rest is (subst (IsLongest language p.text) parts long) in
    let starts : token_at at p.kind p.text ≡ record p { stop = at + length p.text } = ap (λ n. record p { start = n; stop = at + length p.text }) (sym start) in
    let piece : token_at at p.kind p.text ≡ p = starts ∙ ap (λ n. record p { stop = n }) (sym stop) in
    let more : lexemes_from language 0 (at + length p.text) rest ≡ Ok qs =
    ap (λ n. lexemes_from language 0 n rest) (sym stop) ∙ cut_read language p.stop rest qs x in
    ap (lexemes_from language 0 at) parts ∙ read ∙ ap (with_front (token_at at p.kind p.text ∷ [])) more ∙ ap (λ y. Ok (y ∷ qs)) piece

-- The text of the plain spelling is read as its tokens.
use Rattle.std.proofs.Common.{◌≡◌, ℕ, suc, ◌+◌, ◌<◌, Bool, true, false, cond, List, [], ◌∷◌, ◌++◌, map, take, drop, length, flat_map, refl, sym, ◌∙◌, ap, arith, subst, append_assoc, append-nil, inl, inr, ◌⊎◌, Some}
use Rattle.std.specs.Prelude.{◌==◌, ◌||◌, codes}
use Rattle.std.specs.List.{list_all, list_any, take_while}
use Rattle.std.proofs.Math.ListN.{get_or}
use Rattle.std.proofs.Math.Seq.{take-append_seam, drop-append_seam}
use Rattle.std.proofs.lemmas.Bool.{and_parts, or_parts, cases_eq, ne_eqb, false≢true}
use Rattle.std.proofs.lemmas.List.Sums.{take_while-cons}
use Rattle.kc_value.specs.declared.tri.Tri.TheVariants.{N}
use Rattle.kc_value.specs.QuotedTexts.{escaped_byte, quoted as quoted_spelling, IsBetweenQuotes, none, plain, pair}
use Rattle.kc_tokens.specs.declared.language.Language.TheVariants.{Strict, Linux}
use Rattle.kc_tokens.specs.declared.token.Relop.TheVariants.{Equal, NotEqual, Less, Greater, LessEqual, GreaterEqual}
use Rattle.kc_tokens.specs.declared.token.TokenKind.{TokenKind}
use Rattle.kc_tokens.specs.declared.token.TokenKind.TheVariants.{Word, Quoted, Relation, Not, And, Or, Open, Close}
use Rattle.kc_tokens.specs.Token.{Lexeme, is_word_byte, next_token, lexemes_from, with_front}
use Rattle.kc_tokens.specs.TokenGrammar.{relation_text, IsQuotedToken}
use Rattle.kc_expr.specs.Expr.{Expr, Operand, constant, named, quoted, alone, related, negated, both, either, shown}
use Rattle.kc_value.specs.declared.limits.TheConstants.{MAX_EXPR_DEPTH}
use Rattle.kc_expr.specs.Grammar.{Level, ors, ands, factor, IsExpr, one_and, more_ors, one_factor, more_ands, operand, relation, negation, parentheses, operand_of_lexeme, operand_of_kind}
use Rattle.kc_expr.proofs.GrammarComplete.{expr_complete}
use Rattle.kc_reasons_model.proofs.SpellingLaws.{read}
use Rattle.kc_tokens.proofs.TokenSteps.{lexemes_token, lexemes_white}
use Rattle.kc_tokens.proofs.TokenLaws.{quoted_lead, word_no_white, word_no_hash}
use Rattle.kc_expr.proofs.Languages.{strict_in_linux}
use Rattle.kc_reasons_model.specs.Spelling.{token, operand_token, in_parentheses, under_not, spelling, token_text, text_of_tokens, IsLine, HasLineOperands, IsReadAs}
use Rattle.kc_reasons_model.specs.Laws.{SpellingIsReadAsTokens, PrintedExpressionsAreReadBack}

-- the first byte, or 0
abbrev first : List ℕ → ℕ
first bs = get_or bs 0 0

-- ---- one token

-- a line begins with a token: it is read as the token and what is after it
abbrev Leads : TokenKind → (at c : ℕ) (cs rest : List ℕ) → Type 0
Leads kind at c cs rest = lexemes_from Strict 0 at (c ∷ (cs ++ rest))
    ≡ with_front (record { kind = kind; start = at; stop = at + suc (length cs); text = take (suc (length cs)) (c ∷ (cs ++ rest)) } ∷ []) (lexemes_from Strict 0 (at + suc (length cs)) (drop (length cs) (cs ++ rest)))

read_token : (kind : TokenKind) (at c : ℕ) (cs rest : List ℕ) (ts : List Lexeme) → Leads kind at c cs rest
    → IsReadAs Strict (at + suc (length cs)) rest ts → IsReadAs Strict at ((c ∷ cs) ++ rest) (token kind (c ∷ cs) ∷ ts)
read_token kind at c cs rest ts lead next = record {
  ps = record { kind = kind; start = at; stop = at + suc (length cs); text = take (suc (length cs)) (c ∷ (cs ++ rest)) } ∷ next.ps;
  read = lead
      ∙ ap (λ bs. with_front (record { kind = kind; start = at; stop = at + suc (length cs); text = take (suc (length cs)) (c ∷ (cs ++ rest)) } ∷ []) (lexemes_from Strict 0 (at + suc (length cs)) bs)) (drop-append_seam cs rest)
      ∙ ap (λ r. with_front (record { kind = kind; start = at; stop = at + suc (length cs); text = take (suc (length cs)) (c ∷ (cs ++ rest)) } ∷ []) r) next.read;
  same = ap (λ text. token kind text ∷ map (λ (p : Lexeme). token p.kind p.text) next.ps) (take-append_seam (c ∷ cs) rest) ∙ ap (λ us. token kind (c ∷ cs) ∷ us) next.same;
}

read_space : (at : ℕ) (rest : List ℕ) (ts : List Lexeme) → IsReadAs Strict (at + 1) rest ts → IsReadAs Strict at (32 ∷ rest) ts
unfolding next_token
read_space at rest ts next = record { ps = next.ps; read = lexemes_white Strict at 32 rest refl ∙ next.read; same = next.same }

-- a word up to a byte that is none of a word
word_run : (text rest : List ℕ) → list_all is_word_byte text ≡ true → is_word_byte (first rest) ≡ false → length (take_while is_word_byte (text ++ rest)) ≡ length text
word_run [] [] all ends = refl
word_run [] (c ∷ cs) all ends = rw take_while-cons (ap (λ b. length (cond b (c ∷ take_while is_word_byte cs) [])) ends)
word_run (c ∷ text) rest all ends =
    let both = and_parts (is_word_byte c) (list_all is_word_byte text) all in
    rw take_while-cons (ap (λ b. length (cond b (c ∷ take_while is_word_byte (text ++ rest)) [])) both.0 ∙ ap suc (word_run text rest both.1 ends))

word_leads : (at c : ℕ) (cs rest : List ℕ) → is_word_byte c ≡ true → length (take_while is_word_byte (c ∷ (cs ++ rest))) ≡ suc (length cs) → Leads Word at c cs rest
unfolding next_token
word_leads at c cs rest h run = let a = word_no_white c h in let b = word_no_hash c h in lexemes_token Strict at c (cs ++ rest) Word (length cs) (rw (run, a, b, h) refl)

not_leads : (at : ℕ) (rest : List ℕ) → (first rest == 61) ≡ false → Leads Not at 33 [] rest
unfolding next_token
not_leads at [] other = lexemes_token Strict at 33 [] Not 0 refl
not_leads at (c ∷ cs) other = lexemes_token Strict at 33 (c ∷ cs) Not 0 (rw other refl)

open_leads : (at : ℕ) (rest : List ℕ) → Leads Open at 40 [] rest
unfolding next_token
open_leads at rest = lexemes_token Strict at 40 rest Open 0 refl

close_leads : (at : ℕ) (rest : List ℕ) → Leads Close at 41 [] rest
unfolding next_token
close_leads at rest = lexemes_token Strict at 41 rest Close 0 refl

and_leads : (at : ℕ) (rest : List ℕ) → Leads And at 38 (38 ∷ []) rest
unfolding next_token
and_leads at rest = lexemes_token Strict at 38 (38 ∷ rest) And 1 refl

or_leads : (at : ℕ) (rest : List ℕ) → Leads Or at 124 (124 ∷ []) rest
unfolding next_token
or_leads at rest = lexemes_token Strict at 124 (124 ∷ rest) Or 1 refl

-- ---- tokens, each fit for what follows it

abbrev IsFitToken : TokenKind → List ℕ → (rest : List ℕ) → Type 0
IsFitToken Word text rest = (0 < length text) × (list_all is_word_byte text ≡ true) × (is_word_byte (first rest) ≡ false)
IsFitToken Quoted text rest = IsQuotedToken Strict text
IsFitToken (Relation op) text rest = text ≡ relation_text op
IsFitToken Not text rest = (text ≡ 33 ∷ []) × ((first rest == 61) ≡ false)
IsFitToken And text rest = text ≡ 38 ∷ 38 ∷ []
IsFitToken Or text rest = text ≡ 124 ∷ 124 ∷ []
IsFitToken Open text rest = text ≡ 40 ∷ []
IsFitToken Close text rest = text ≡ 41 ∷ []

abbrev AreFit : List Lexeme → Type 0
AreFit [] = Unit {0}
AreFit (t ∷ ts) = IsFitToken t.kind t.text (text_of_tokens ts) × AreFit ts

-- a relation between spaces
relation_reads : (at : ℕ) (rest : List ℕ) (ts : List Lexeme) → ((k : ℕ) → IsReadAs Strict k rest ts) → (op : _) → IsReadAs Strict at (token_text (Relation op) (relation_text op) ++ rest) (token (Relation op) (relation_text op) ∷ ts)
unfolding next_token
relation_reads at rest ts next Equal = read_space at _ _ (read_token (Relation Equal) (at + 1) 61 [] (32 ∷ rest) ts (lexemes_token Strict (at + 1) 61 (32 ∷ rest) (Relation Equal) 0 refl) (read_space _ rest ts (next _)))
relation_reads at rest ts next NotEqual = read_space at _ _ (read_token (Relation NotEqual) (at + 1) 33 (61 ∷ []) (32 ∷ rest) ts (lexemes_token Strict (at + 1) 33 (61 ∷ 32 ∷ rest) (Relation NotEqual) 1 refl) (read_space _ rest ts (next _)))
relation_reads at rest ts next Less = read_space at _ _ (read_token (Relation Less) (at + 1) 60 [] (32 ∷ rest) ts (lexemes_token Strict (at + 1) 60 (32 ∷ rest) (Relation Less) 0 refl) (read_space _ rest ts (next _)))
relation_reads at rest ts next Greater = read_space at _ _ (read_token (Relation Greater) (at + 1) 62 [] (32 ∷ rest) ts (lexemes_token Strict (at + 1) 62 (32 ∷ rest) (Relation Greater) 0 refl) (read_space _ rest ts (next _)))
relation_reads at rest ts next LessEqual = read_space at _ _ (read_token (Relation LessEqual) (at + 1) 60 (61 ∷ []) (32 ∷ rest) ts (lexemes_token Strict (at + 1) 60 (61 ∷ 32 ∷ rest) (Relation LessEqual) 1 refl) (read_space _ rest ts (next _)))
relation_reads at rest ts next GreaterEqual = read_space at _ _ (read_token (Relation GreaterEqual) (at + 1) 62 (61 ∷ []) (32 ∷ rest) ts (lexemes_token Strict (at + 1) 62 (61 ∷ 32 ∷ rest) (Relation GreaterEqual) 1 refl) (read_space _ rest ts (next _)))

token_reads : (kind : TokenKind) (text rest : List ℕ) (ts : List Lexeme) (at : ℕ) → IsFitToken kind text rest → ((k : ℕ) → IsReadAs Strict k rest ts) → IsReadAs Strict at (token_text kind text ++ rest) (token kind text ∷ ts)
token_reads Word [] rest ts at fit next = absurd (omega (arith, fit.0))
token_reads Word (c ∷ cs) rest ts at fit next =
    let both = and_parts (is_word_byte c) (list_all is_word_byte cs) fit.1 in
    read_token Word at c cs rest ts (word_leads at c cs rest both.0 (word_run (c ∷ cs) rest fit.1 fit.2)) (next _)
token_reads Quoted [] rest ts at fit next = absurd (cc (fit.parts))
token_reads Quoted (c ∷ cs) rest ts at fit next = read_token Quoted at c cs rest ts (lexemes_token Strict at c (cs ++ rest) Quoted (length cs) (quoted_lead Strict (c ∷ cs) rest fit)) (next _)
token_reads (Relation op) text rest ts at fit next =
    subst (λ x. IsReadAs Strict at (token_text (Relation op) x ++ rest) (token (Relation op) x ∷ ts)) (sym fit) (relation_reads at rest ts next op)
token_reads Not text rest ts at fit next = subst (λ x. IsReadAs Strict at (x ++ rest) (token Not x ∷ ts)) (sym fit.0) (read_token Not at 33 [] rest ts (not_leads at rest fit.1) (next _))
token_reads And text rest ts at fit next =
    subst (λ x. IsReadAs Strict at (token_text And x ++ rest) (token And x ∷ ts)) (sym fit) (read_space at _ _ (read_token And (at + 1) 38 (38 ∷ []) (32 ∷ rest) ts (and_leads (at + 1) (32 ∷ rest)) (read_space _ rest ts (next _))))
token_reads Or text rest ts at fit next =
    subst (λ x. IsReadAs Strict at (token_text Or x ++ rest) (token Or x ∷ ts)) (sym fit) (read_space at _ _ (read_token Or (at + 1) 124 (124 ∷ []) (32 ∷ rest) ts (or_leads (at + 1) (32 ∷ rest)) (read_space _ rest ts (next _))))
token_reads Open text rest ts at fit next = subst (λ x. IsReadAs Strict at (x ++ rest) (token Open x ∷ ts)) (sym fit) (read_token Open at 40 [] rest ts (open_leads at rest) (next _))
token_reads Close text rest ts at fit next = subst (λ x. IsReadAs Strict at (x ++ rest) (token Close x ∷ ts)) (sym fit) (read_token Close at 41 [] rest ts (close_leads at rest) (next _))

-- tokens at no place
abbrev Placeless : List Lexeme → Type 0
Placeless [] = Unit {0}
Placeless (t ∷ ts) = (t ≡ token t.kind t.text) × Placeless ts

all_read : (ts : List Lexeme) → AreFit ts → Placeless ts → (at : ℕ) → IsReadAs Strict at (text_of_tokens ts) ts
all_read [] fit placeless at = record { ps = []; read = refl; same = refl }
all_read (t ∷ ts) fit placeless at =
    subst (λ u. IsReadAs Strict at (token_text t.kind t.text ++ text_of_tokens ts) (u ∷ ts)) (sym placeless.0)
    (token_reads t.kind t.text (text_of_tokens ts) ts at fit.0 (all_read ts fit.1 placeless.1))

-- ---- a spelling's tokens

no_dollars : (x : List ℕ) → list_any (λ c. c == 36) x ≡ false → list_any (λ c. c == 36) (flat_map escaped_byte x) ≡ false
no_dollars [] clean = refl
no_dollars (c ∷ cs) clean =
    let both = or_parts (c == 36) (list_any (λ d. d == 36) cs) clean in
    go (c == 34 || (c == 92)) (no_dollars cs both.1) both.0 where
      go : (b : Bool) → list_any (λ d. d == 36) (flat_map escaped_byte cs) ≡ false → (c == 36) ≡ false → list_any (λ d. d == 36) (cond b (92 ∷ c ∷ []) (c ∷ []) ++ flat_map escaped_byte cs) ≡ false
      go true rest e = ap (λ b. b || list_any (λ d. d == 36) (flat_map escaped_byte cs)) e ∙ rest
      go false rest e = ap (λ b. b || list_any (λ d. d == 36) (flat_map escaped_byte cs)) e ∙ rest

body_at : (b : Bool) (c : ℕ) (bs cs : List ℕ) → (c == 34 || (c == 92)) ≡ b → IsBetweenQuotes 34 bs cs → IsBetweenQuotes 34 (cond b (92 ∷ c ∷ []) (c ∷ []) ++ bs) (c ∷ cs)
body_at true c bs cs e h = pair h
body_at false c bs cs e h = let both = or_parts (c == 34) (c == 92) e in plain both.0 both.1 h

escapes_body : (x : List ℕ) → IsBetweenQuotes 34 (flat_map escaped_byte x) x
escapes_body [] = none
escapes_body (c ∷ cs) = body_at (c == 34 || (c == 92)) c (flat_map escaped_byte cs) cs refl (escapes_body cs)

quoted_token : (x : List ℕ) → list_any (λ c. c == 36) x ≡ false → IsQuotedToken Strict (quoted_spelling x)
quoted_token x clean = record {
  quote = 34;
  body = flat_map escaped_byte x;
  means = x;
  sort = refl;
  parts = refl;
  is_between_quotes = escapes_body x;
  dollars = no_dollars x clean;
}

-- what follows an operand is no byte of a word
abbrev EndsWord : List Lexeme → Type 0
EndsWord us = is_word_byte (first (text_of_tokens us)) ≡ false

operand_fits : (a : Operand) (us : List Lexeme) → IsLine a → EndsWord us → AreFit us → AreFit (operand_token a ∷ us)
operand_fits (named x) us is ends fit = ((is.0, is.1, ends), fit)
operand_fits (quoted x) us is ends fit = (quoted_token x is, fit)
operand_fits (constant N) us is ends fit = ((omega arith, refl, ends), fit)
operand_fits _ us is ends fit = ((omega arith, refl, ends), fit)

-- an operand doesn't begin with `=`
word_no_equal : (c : ℕ) → is_word_byte c ≡ true → (c == 61) ≡ false
word_no_equal c h = go (cases_eq c 61) where
  go : (c ≡ 61) ⊎ (c ≡ 61 → ⊥) → (c == 61) ≡ false
  go (inl e) = absurd (false≢true (sym (ap is_word_byte e) ∙ h))
  go (inr other) = ne_eqb c 61 other

operand_begins : (a : Operand) (us : List Lexeme) → IsLine a → (first (text_of_tokens (operand_token a ∷ us)) == 61) ≡ false
operand_begins (named []) us is = absurd (omega (arith, is.0))
operand_begins (named (c ∷ cs)) us is = word_no_equal c (and_parts (is_word_byte c) (list_all is_word_byte cs) is.1).0
operand_begins (constant N) us is = refl
operand_begins _ us is = refl

begins : (l : Level) (e : Expr) (us : List Lexeme) → HasLineOperands e → (first (text_of_tokens (spelling l e ++ us)) == 61) ≡ false
begins l (alone a) us is = operand_begins a us is
begins l (related op a b) us is = operand_begins a (token (Relation op) (relation_text op) ∷ (operand_token b ∷ us)) is.0
begins l (negated e) us is = refl
begins ors (either a b) us is = ap (λ ts. first (text_of_tokens ts) == 61) (append_assoc (spelling ors a) _ us) ∙ begins ors a _ is.0
begins _ (either a b) us is = refl
begins ors (both a b) us is = ap (λ ts. first (text_of_tokens ts) == 61) (append_assoc (spelling ands a) _ us) ∙ begins ands a _ is.0
begins ands (both a b) us is = ap (λ ts. first (text_of_tokens ts) == 61) (append_assoc (spelling ands a) _ us) ∙ begins ands a _ is.0
begins factor (both a b) us is = refl
begins l (shown e) us is = begins l e us is

-- some tokens in parentheses
in_both_fit : (ts us : List Lexeme) → ((ws : List Lexeme) → EndsWord ws → AreFit ws → AreFit (ts ++ ws)) → AreFit us → AreFit (in_parentheses ts ++ us)
in_both_fit ts us inner fit = (refl, subst AreFit (sym (append_assoc ts (token Close (codes ")") ∷ []) us)) (inner (token Close (codes ")") ∷ us) refl (refl, fit)))

-- two sides of an operator
joined_fit : (o : Lexeme) (ts us ws : List Lexeme) → IsFitToken o.kind o.text (text_of_tokens (us ++ ws)) → is_word_byte (first (token_text o.kind o.text ++ text_of_tokens (us ++ ws))) ≡ false
    → ((vs : List Lexeme) → EndsWord vs → AreFit vs → AreFit (ts ++ vs)) → AreFit (us ++ ws) → AreFit ((ts ++ o ∷ us) ++ ws)
joined_fit o ts us ws fits ends left right = subst AreFit (sym (append_assoc ts (o ∷ us) ws)) (left (o ∷ (us ++ ws)) ends (fits, right))

under_not_begins : (e : Expr) (us : List Lexeme) → HasLineOperands e → (first (text_of_tokens (under_not e (spelling factor e) ++ us)) == 61) ≡ false
under_not_begins (alone a) us is = begins factor (alone a) us is
under_not_begins (shown e) us is = begins factor e us is
under_not_begins _ us is = refl

under_not_fits : (e : Expr) (us : List Lexeme) → ((ws : List Lexeme) → EndsWord ws → AreFit ws → AreFit (spelling factor e ++ ws)) → EndsWord us → AreFit us → AreFit (under_not e (spelling factor e) ++ us)
under_not_fits (related op a b) us inner ends fit = in_both_fit (spelling factor (related op a b)) us inner fit
under_not_fits _ us inner ends fit = inner us ends fit

fits : (l : Level) (e : Expr) → HasLineOperands e → (us : List Lexeme) → EndsWord us → AreFit us → AreFit (spelling l e ++ us)
fits l (alone a) is us ends fit = operand_fits a us is ends fit
fits l (related op a b) is us ends fit = operand_fits a (token (Relation op) (relation_text op) ∷ (operand_token b ∷ us)) is.0 refl (refl, operand_fits b us is.1 ends fit)
fits l (negated e) is us ends fit = ((refl, under_not_begins e us is), under_not_fits e us (fits factor e is) ends fit)
fits ors (either a b) is us ends fit = joined_fit (token Or (codes "||")) (spelling ors a) (spelling ands b) us refl refl (fits ors a is.0) (fits ands b is.1 us ends fit)
fits ands (either a b) is us ends fit = in_both_fit _ us (λ ws e f. joined_fit (token Or (codes "||")) (spelling ors a) (spelling ands b) ws refl refl (fits ors a is.0) (fits ands b is.1 ws e f)) fit
fits factor (either a b) is us ends fit = in_both_fit _ us (λ ws e f. joined_fit (token Or (codes "||")) (spelling ors a) (spelling ands b) ws refl refl (fits ors a is.0) (fits ands b is.1 ws e f)) fit
fits ors (both a b) is us ends fit = joined_fit (token And (codes "&&")) (spelling ands a) (spelling factor b) us refl refl (fits ands a is.0) (fits factor b is.1 us ends fit)
fits ands (both a b) is us ends fit = joined_fit (token And (codes "&&")) (spelling ands a) (spelling factor b) us refl refl (fits ands a is.0) (fits factor b is.1 us ends fit)
fits factor (both a b) is us ends fit = in_both_fit _ us (λ ws e f. joined_fit (token And (codes "&&")) (spelling ands a) (spelling factor b) ws refl refl (fits ands a is.0) (fits factor b is.1 ws e f)) fit
fits l (shown e) is us ends fit = fits l e is us ends fit

-- ---- they are at no place

none_joined : (ts us : List Lexeme) → Placeless ts → Placeless us → Placeless (ts ++ us)
none_joined [] us h k = k
none_joined (t ∷ ts) us h k = (h.0, none_joined ts us h.1 k)

operand_none : (a : Operand) → Placeless (operand_token a ∷ [])
operand_none (constant t) = (refl, tt)
operand_none _ = (refl, tt)

both_none : (ts : List Lexeme) → Placeless ts → Placeless (in_parentheses ts)
both_none ts h = (refl, none_joined ts (token Close (codes ")") ∷ []) h (refl, tt))

under_none : (e : Expr) → Placeless (spelling factor e) → Placeless (under_not e (spelling factor e))
under_none (related op a b) h = both_none (spelling factor (related op a b)) h
under_none _ h = h

no_places : (l : Level) (e : Expr) → Placeless (spelling l e)
no_places l (alone a) = operand_none a
no_places l (related op a b) = ((operand_none a).0, (refl, operand_none b))
no_places l (negated e) = (refl, under_none e (no_places factor e))
no_places ors (either a b) = none_joined (spelling ors a) _ (no_places ors a) (refl, no_places ands b)
no_places ands (either a b) = both_none _ (none_joined (spelling ors a) _ (no_places ors a) (refl, no_places ands b))
no_places factor (either a b) = both_none _ (none_joined (spelling ors a) _ (no_places ors a) (refl, no_places ands b))
no_places ors (both a b) = none_joined (spelling ands a) _ (no_places ands a) (refl, no_places factor b)
no_places ands (both a b) = none_joined (spelling ands a) _ (no_places ands a) (refl, no_places factor b)
no_places factor (both a b) = both_none _ (none_joined (spelling ands a) _ (no_places ands a) (refl, no_places factor b))
no_places l (shown e) = no_places l e

strict : (e : Expr) → HasLineOperands e → IsReadAs Strict 0 (text_of_tokens (spelling ors e)) (spelling ors e)
strict e is = all_read (spelling ors e) (subst AreFit (append-nil (spelling ors e)) (fits ors e is [] refl tt)) (no_places ors e) 0

pub read_as_tokens : SpellingIsReadAsTokens
read_as_tokens Strict e is = strict e is
read_as_tokens (Linux version) e is = let s = strict e is in record { ps = s.ps; read = strict_in_linux version 0 0 _ _ s.read; same = s.same }

-- ---- an expression's grammar doesn't look at places

abbrev placeless : Lexeme → Lexeme
placeless p = token p.kind p.text

record Halves (ps ts us : List Lexeme) : Type 0 where
  qs : List Lexeme
  rs : List Lexeme
  joined : ps ≡ qs ++ rs
  left : map placeless qs ≡ map placeless ts
  right : map placeless rs ≡ map placeless us

halves : (ts us ps : List Lexeme) → map placeless ps ≡ map placeless (ts ++ us) → Halves ps ts us
halves [] us ps e = record { qs = []; rs = ps; joined = refl; left = refl; right = e }
halves (t ∷ ts) us [] e = absurd (cc)
halves (t ∷ ts) us (p ∷ ps) e =
    let head : placeless p ≡ placeless t = cc in
    let tail : map placeless ps ≡ map placeless (ts ++ us) = cc in
    let h = halves ts us ps tail in
    record {
      qs = p ∷ h.qs;
      rs = h.rs;
      joined = ap (λ xs. p ∷ xs) h.joined;
      left = ap (λ x. x ∷ map placeless h.qs) head ∙ ap (λ xs. placeless t ∷ xs) h.left;
      right = h.right;
    }

record First (ps : List Lexeme) (t : Lexeme) (us : List Lexeme) : Type 0 where
  p : Lexeme
  rest : List Lexeme
  is : ps ≡ p ∷ rest
  kind : p.kind ≡ t.kind
  text : p.text ≡ t.text
  others : map placeless rest ≡ map placeless us

first_of : (t : Lexeme) (us ps : List Lexeme) → map placeless ps ≡ map placeless (t ∷ us) → First ps t us
first_of t us [] e = absurd (cc)
first_of t us (p ∷ ps) e =
    let head : placeless p ≡ placeless t = cc in
    let tail : map placeless ps ≡ map placeless us = cc in
    record { p = p; rest = ps; is = refl; kind = ap (λ (q : Lexeme). q.kind) head; text = ap (λ (q : Lexeme). q.text) head; others = tail }

none_left : (ps : List Lexeme) → map placeless ps ≡ map placeless [] → ps ≡ []
none_left [] e = refl
none_left (p ∷ ps) e = absurd (cc)

same_operand : (p t : Lexeme) (a : Operand) → p.kind ≡ t.kind → p.text ≡ t.text → operand_of_lexeme t ≡ Some a → operand_of_lexeme p ≡ Some a
same_operand p t a k x is = ap (λ y. operand_of_kind p.kind y) x ∙ ap (λ y. operand_of_kind y t.text) k ∙ is

moved : (l : Level) (d : ℕ) (ts : List Lexeme) (e : Expr) → IsExpr l d ts e → (ps : List Lexeme) → map placeless ps ≡ map placeless ts → IsExpr l d ps e
moved ors d ts e (one_and h) ps same = one_and (moved ands d ts e h ps same)
moved ands d ts e (one_factor h) ps same = one_factor (moved factor d ts e h ps same)
moved ors d all (either a b) (more_ors {ts = ts} {us = us} o left is right cut) ps same =
    let h = halves ts (o ∷ us) ps (same ∙ ap (map placeless) cut) in
    let f = first_of o us h.rs h.right in
    more_ors f.p (moved ors d ts a left h.qs h.left) (f.kind ∙ is) (moved ands d us b right f.rest f.others) (h.joined ∙ ap (λ xs. h.qs ++ xs) f.is)
moved ands d all (both a b) (more_ands {ts = ts} {us = us} o left is right cut) ps same =
    let h = halves ts (o ∷ us) ps (same ∙ ap (map placeless) cut) in
    let f = first_of o us h.rs h.right in
    more_ands f.p (moved ands d ts a left h.qs h.left) (f.kind ∙ is) (moved factor d us b right f.rest f.others) (h.joined ∙ ap (λ xs. h.qs ++ xs) f.is)
moved factor d all (alone a) (operand t is cut) ps same =
    let f = first_of t [] ps (same ∙ ap (map placeless) cut) in
    operand f.p (same_operand f.p t a f.kind f.text is) (f.is ∙ ap (λ xs. f.p ∷ xs) (none_left f.rest f.others))
moved factor d all (related o a b) (relation t r u op left is right cut) ps same =
    let f = first_of t (r ∷ u ∷ []) ps (same ∙ ap (map placeless) cut) in
    let g = first_of r (u ∷ []) f.rest f.others in
    let h = first_of u [] g.rest g.others in
    relation f.p g.p h.p op (same_operand f.p t a f.kind f.text left) (g.kind ∙ is) (same_operand h.p u b h.kind h.text right)
    (f.is ∙ ap (λ xs. f.p ∷ xs) (g.is ∙ ap (λ xs. g.p ∷ xs) (h.is ∙ ap (λ xs. h.p ∷ xs) (none_left h.rest h.others))))
moved factor (suc d) all (negated e) (negation {ts = ts} t is inner cut) ps same =
    let f = first_of t ts ps (same ∙ ap (map placeless) cut) in
    negation f.p (f.kind ∙ is) (moved factor d ts e inner f.rest f.others) f.is
moved factor (suc d) all e (parentheses {ts = ts} o c opens inner closes cut) ps same =
    let f = first_of o (ts ++ c ∷ []) ps (same ∙ ap (map placeless) cut) in
    let h = halves ts (c ∷ []) f.rest f.others in
    let g = first_of c [] h.rs h.right in
    parentheses f.p g.p (f.kind ∙ opens) (moved ors d ts e inner h.qs h.left) (g.kind ∙ closes)
    (f.is ∙ ap (λ xs. f.p ∷ xs) (h.joined ∙ ap (λ xs. h.qs ++ xs) (g.is ∙ ap (λ xs. g.p ∷ xs) (none_left g.rest g.others))))

at_no_place : (ts : List Lexeme) → Placeless ts → map placeless ts ≡ ts
at_no_place [] h = refl
at_no_place (t ∷ ts) h = ap (λ x. x ∷ map placeless ts) (sym h.0) ∙ ap (λ xs. t ∷ xs) (at_no_place ts h.1)

pub printed : PrintedExpressionsAreReadBack
printed language e readable lines shallow =
    let r = read_as_tokens language e lines in (
      r.ps,
      r.read,
      expr_complete r.ps e (moved ors MAX_EXPR_DEPTH (spelling ors e) e (read ors MAX_EXPR_DEPTH e readable shallow) r.ps (r.same ∙ sym (at_no_place (spelling ors e) (no_places ors e)))),
    )

-- A line's first fault is what is read of it.
use Rattle.kc_expr.proofs.Common.{◌≡◌, ℕ, suc, ◌+◌, ◌⊎◌, inl, inr, true, false, eqb, List, [], ◌∷◌, ◌++◌, length, take, Option, Some, None, Result, Ok, Err, refl, ap, sym, ◌∙◌, append_assoc, length-append, arith, both_ways, take-append_seam, closing, ExprFault, UnclosedQuote, LeftOut, Language}
use Rattle.kc_expr.proofs.Common.{NextToken, White, Comment, Token, Fault, is_quote, Lexeme, with_front, dollar_left_out, quoted_up_to, quoted_or_left_out, lexemes_from, IsFirstTokenFault, cut_read, lead_quoted}
use Rattle.std.proofs.lemmas.Bool.{eq-eqb}
use Rattle.kc_value.specs.QuotedTexts.{IsBetweenQuotes}
use Rattle.kc_value.proofs.QuotedLaws.{body_closes, closed}
use Rattle.kc_tokens.specs.declared.fault.ExprKind.TheVariants.{BadToken}
use Rattle.kc_tokens.specs.Token.{is_white_byte, next_token}
use Rattle.kc_tokens.specs.TokenGrammar.{HasDollarsOf, NothingBegins, IsFaultAt, dollar, unclosed, dollar_between, other_byte, IsCut, here, after_white, after_token}
use Rattle.kc_tokens.proofs.CutLaws.{IsReading, read_is}
use Rattle.kc_tokens.proofs.Dollars.{left_out_first}
use Rattle.kc_tokens.proofs.TokenSteps.{lexemes_white, lexemes_fault}
use Rattle.kc_tokens.proofs.TokenFronts.{IsNextToken, next_token_is}
use Rattle.kc_tokens.proofs.TokenLaws.{white_lead, quote_facts, quote_no_slash, token_at, token_read}

-- the fault of a byte, as it is read
abbrev IsRead : Language → ℕ → List ℕ → ExprFault → Type 0
IsRead language at bytes fault = (n : ℕ) × (next_token language bytes ≡ Fault fault.kind n) × (at + n ≡ fault.offset)

dollar_read : (language : Language) (at : ℕ) (bytes : List ℕ) → IsRead language at (36 ∷ bytes) (record { offset = at; kind = LeftOut })
unfolding next_token
dollar_read language at bytes = (0, refl, omega arith)

unclosed_read : (language : Language) (at q : ℕ) (bytes : List ℕ) → is_quote q ≡ true
    → ((body means rest : List ℕ) → IsBetweenQuotes q body means → bytes ≡ body ++ q ∷ rest → ⊥)
    → IsRead language at (q ∷ bytes) (record { offset = at; kind = UnclosedQuote })
unclosed_read language at q bytes h open_ended = by_closing (closing q false bytes) refl
  where
    by_closing : (o : Option ℕ) → closing q false bytes ≡ o → IsRead language at (q ∷ bytes) (record { offset = at; kind = UnclosedQuote })
    by_closing None e = (0, lead_quoted language q bytes h ∙ ap (quoted_up_to language (q ∷ bytes)) e, omega arith)
    by_closing (Some n) e = let k = closed q false bytes n e in absurd (open_ended k.body _ k.rest k.is_between_quotes k.parts)

between_read : (language : Language) (at q : ℕ) (front back means rest : List ℕ) → is_quote q ≡ true → IsBetweenQuotes q (front ++ 36 ∷ back) means
    → HasDollarsOf language front → IsRead language at (q ∷ ((front ++ 36 ∷ back) ++ q ∷ rest)) (record { offset = at + 1 + length front; kind = LeftOut })
between_read language at q front back means rest h is dollars =
    let body : List ℕ = front ++ 36 ∷ back in
    let whole : List ℕ = q ∷ (body ++ q ∷ []) in
    let (slash, no_dollar, word) = quote_facts q h in
    let close : closing q false (body ++ q ∷ rest) ≡ Some (suc (length body)) = body_closes q body means rest slash is in
    let size : suc (length body) + 1 ≡ length whole = omega (arith, length-append body (q ∷ [])) in
    let parts : q ∷ (body ++ q ∷ rest) ≡ whole ++ rest = ap (λ x. q ∷ x) (sym (append_assoc body (q ∷ []) rest)) in
    let first : dollar_left_out language (take (suc (length body) + 1) (q ∷ (body ++ q ∷ rest))) ≡ Some (suc (length front)) =
    ap (λ x. dollar_left_out language (take (suc (length body) + 1) x)) parts
    ∙ ap (λ n. dollar_left_out language (take n (whole ++ rest))) size
    ∙ ap (dollar_left_out language) (take-append_seam whole rest)
    ∙ left_out_first q body no_dollar (quote_no_slash q h) language front back refl dollars in
    let lead =
    lead_quoted language q (body ++ q ∷ rest) h ∙ ap (quoted_up_to language (q ∷ (body ++ q ∷ rest))) close
    ∙ ap (quoted_or_left_out (suc (length body) + 1)) first in
    (suc (length front), lead, omega arith)

-- the fault of a byte that is no `$` and no quote
other_only : (language : Language) (at c : ℕ) (bytes : List ℕ) (fault : ExprFault) → eqb c 36 ≡ false → is_quote c ≡ false
    → IsFaultAt language at (c ∷ bytes) fault → fault ≡ record { offset = at; kind = BadToken }
other_only language at c bytes fault d q dollar = cc
other_only language at c bytes fault d q (unclosed h n) = absurd (both_ways (is_quote c) q h)
other_only language at c bytes fault d q (dollar_between front back means rest h is dollars) = absurd (both_ways (is_quote c) q h)
other_only language at c bytes fault d q (other_byte e h) = refl

other_read : (language : Language) (at c : ℕ) (bytes : List ℕ) → NothingBegins language c bytes → eqb c 36 ≡ false → is_quote c ≡ false
    → IsRead language at (c ∷ bytes) (record { offset = at; kind = BadToken })
other_read language at c bytes none d q = by_lead (next_token language (c ∷ bytes)) refl (next_token_is language c bytes)
  where
    by_lead : (lead : NextToken) → next_token language (c ∷ bytes) ≡ lead → IsNextToken language c bytes lead
        → IsRead language at (c ∷ bytes) (record { offset = at; kind = BadToken })
    by_lead White e s = absurd (both_ways (is_white_byte c) none.0 s)
    by_lead Comment e s = absurd (both_ways (eqb c 35) none.1 (eq-eqb c 35 s))
    by_lead (Token kind len) e s = absurd (none.2 kind s.text s.rest s.parts s.is)
    by_lead (Fault kind n) e s =
        let same = other_only language at c bytes (record { offset = at + n; kind = kind }) d q (s.1 at) in
        let as_bad : kind ≡ BadToken = ap (λ (f : ExprFault). f.kind) same in
        let here : at + n ≡ at = ap (λ (f : ExprFault). f.offset) same in
        (n, e ∙ ap (λ k. Fault k n) as_bad, here)

fault_lead : (language : Language) (at c : ℕ) (bytes : List ℕ) (fault : ExprFault) → NothingBegins language c bytes → IsFaultAt language at (c ∷ bytes) fault
    → IsRead language at (c ∷ bytes) fault
fault_lead language at c bytes fault none (dollar {bytes = bs}) = dollar_read language at bs
fault_lead language at c bytes fault none (unclosed h n) = unclosed_read language at c bytes h n
fault_lead language at c bytes fault none (dollar_between front back means rest h is dollars) = between_read language at c front back means rest h is dollars
fault_lead language at c bytes fault none (other_byte d q) = other_read language at c bytes none d q

-- where the token language says that a fault is a line's first, reading the line gives that fault
pub fault_read : (language : Language) (at : ℕ) (bytes : List ℕ) (fault : ExprFault) → IsFirstTokenFault language at bytes fault
    → lexemes_from language 0 at bytes ≡ Err fault
fault_read language at bytes fault (here {c = c} {bytes = bs} none is) =
    let (n, lead, place) = fault_lead language at c bs fault none is in
    lexemes_fault language at c bs fault.kind n lead ∙ ap (λ m. Err (record { offset = m; kind = fault.kind })) place
fault_read language at bytes fault (after_white {c = c} {bytes = bs} w x) =
    lexemes_white language at c bs (white_lead language c bs w) ∙ fault_read language (at + 1) bs fault x
fault_read language at bytes fault (after_token kind text rest is long x) =
    token_read language at kind text rest is long ∙ ap (with_front (token_at at kind text ∷ [])) (fault_read language (at + length text) rest fault x)

-- a reading is what is read
reading_is : (language : Language) (at : ℕ) (bytes : List ℕ) (r : Result (List Lexeme) ExprFault) → IsReading language at bytes r
    → lexemes_from language 0 at bytes ≡ r
reading_is language at bytes (Ok ps) h = cut_read language at bytes ps h
reading_is language at bytes (Err fault) h = fault_read language at bytes fault h

-- a line has one reading
module _ (language : Language) (line : List ℕ) where
  abbrev Tokens : Type 0
  Tokens = (ps : List Lexeme) × IsCut language 0 line ps

  abbrev Faults : Type 0
  Faults = (fault : ExprFault) × IsFirstTokenFault language 0 line fault

  either_reading : (r : Result (List Lexeme) ExprFault) → IsReading language 0 line r → Tokens ⊎ Faults
  either_reading (Ok ps) h = inl (ps, h)
  either_reading (Err fault) h = inr (fault, h)

  pub some_reading : Tokens ⊎ Faults
  some_reading = either_reading (lexemes_from language 0 0 line) (read_is language (length line) 0 line (omega arith))

  one_reading : (r s : Result (List Lexeme) ExprFault) → IsReading language 0 line r → IsReading language 0 line s → r ≡ s
  one_reading r s h k = sym (reading_is language 0 line r h) ∙ reading_is language 0 line s k

  pub no_two_readings : (ps : List Lexeme) (fault : ExprFault) → IsCut language 0 line ps → IsFirstTokenFault language 0 line fault → ⊥
  no_two_readings ps fault h k = let e = one_reading (Ok ps) (Err fault) h k in cc

  pub one_cut : (ps qs : List Lexeme) → IsCut language 0 line ps → IsCut language 0 line qs → ps ≡ qs
  one_cut ps qs h k = let e = one_reading (Ok ps) (Ok qs) h k in cc

  pub one_fault : (e f : ExprFault) → IsFirstTokenFault language 0 line e → IsFirstTokenFault language 0 line f → e ≡ f
  one_fault e f h k = let q = one_reading (Err e) (Err f) h k in cc

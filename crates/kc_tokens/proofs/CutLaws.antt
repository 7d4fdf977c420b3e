-- What is read of a line is its tokens or its first fault, and no other.
use Rattle.kc_tokens.proofs.Common.{◌≡◌, ℕ, zero, suc, ◌+◌, ◌≤◌, ◌<◌, ◌⊎◌, inl, inr, true, List, [], ◌∷◌, ◌++◌, length, Result, Ok, Err, refl, ap, sym, ◌∙◌, subst, length-append, arith, ExprFault, Language, NextToken, White, Comment, Token, Fault, TokenKind, Lexeme, with_front, is_white_byte}
use Rattle.kc_tokens.proofs.Common.{lexemes_of, lexemes_from, IsToken, IsLongest, IsCut, ends, comment, white, token}
use Rattle.kc_tokens.specs.MemoryFaults.{IsOutOfMemory}
use Rattle.kc_tokens.specs.declared.token.Token.{Token as CodeToken}
use Rattle.kc_tokens.specs.Token.{next_token}
use Rattle.kc_tokens.specs.TokenGrammar.{IsFirstTokenFault, here, after_white, after_token}
use Rattle.kc_tokens.proofs.TokenSteps.{lexemes_white, lexemes_comment, lexemes_fault, with_front_none}
use Rattle.kc_tokens.proofs.TokenFronts.{IsNextToken, next_token_is}
use Rattle.kc_tokens.proofs.TokenLaws.{first_byte, token_at, token_read}

-- a result is what the token language says of a line from a place on: its tokens, or its first fault
abbrev pub IsReading : Language → ℕ → List ℕ → Result (List Lexeme) ExprFault → Type 0
IsReading language at bytes (Ok ps) = IsCut language at bytes ps
IsReading language at bytes (Err fault) = IsFirstTokenFault language at bytes fault

after_white_byte : (language : Language) (at c : ℕ) (bytes : List ℕ) (r : Result (List Lexeme) ExprFault) → is_white_byte c ≡ true
    → IsReading language (at + 1) bytes r → IsReading language at (c ∷ bytes) r
after_white_byte language at c bytes (Ok ps) w h = white w h
after_white_byte language at c bytes (Err fault) w h = after_white w h

after_one : (language : Language) (at : ℕ) (kind : TokenKind) (text rest : List ℕ) (r : Result (List Lexeme) ExprFault) → IsToken language kind text
    → IsLongest language text (text ++ rest) → IsReading language (at + length text) rest r
    → IsReading language at (text ++ rest) (with_front (token_at at kind text ∷ []) r)
after_one language at kind text rest (Ok ps) is long h = token (token_at at kind text) rest refl is long refl refl h
after_one language at kind text rest (Err fault) is long h = after_token kind text rest is long h

token_some : (language : Language) (k : TokenKind) (text : List ℕ) → IsToken language k text → 0 < length text
token_some language k text is = let (c, cs, e) = first_byte language k text is in omega (arith, ap length e)

-- what `lexemes_from` gives of a line is what the token language says of the line
pub read_is : (language : Language) (n at : ℕ) (bytes : List ℕ) → length bytes ≤ n → IsReading language at bytes (lexemes_from language 0 at bytes)
read_is language n at [] l = ends
read_is language zero at (b ∷ bs) l = absurd (omega arith)
read_is language (suc n) at (b ∷ bs) l = by_lead (next_token language (b ∷ bs)) refl (next_token_is language b bs) (λ at bytes l. read_is language n at bytes l)
  where
    by_lead : (lead : NextToken) → next_token language (b ∷ bs) ≡ lead → IsNextToken language b bs lead
        → ((at : ℕ) (bytes : List ℕ) → length bytes ≤ n → IsReading language at bytes (lexemes_from language 0 at bytes))
        → IsReading language at (b ∷ bs) (lexemes_from language 0 at (b ∷ bs))
    by_lead White e s ih =
        subst (IsReading language at (b ∷ bs)) (sym (lexemes_white language at b bs e))
        (after_white_byte language at b bs (lexemes_from language 0 (at + 1) bs) s (ih (at + 1) bs (omega arith)))
    by_lead Comment e s ih =
        subst (IsReading language at (b ∷ bs)) (sym (lexemes_comment language at b bs e)) (subst (λ c. IsCut language at (c ∷ bs) []) (sym s) comment)
    by_lead (Token k len) e s ih =
        let long : IsLongest language s.text (s.text ++ s.rest) = subst (IsLongest language s.text) s.parts s.longest in
        let some : 0 < length s.text = token_some language k s.text s.is in
        let less : length s.rest ≤ n = omega (arith, ap length s.parts, length-append s.text s.rest, some) in
        subst (λ x. IsReading language at x (lexemes_from language 0 at x)) (sym s.parts)
        (subst (IsReading language at (s.text ++ s.rest)) (sym (token_read language at k s.text s.rest s.is long))
        (after_one language at k s.text s.rest (lexemes_from language 0 (at + length s.text) s.rest) s.is long (ih (at + length s.text) s.rest less)))
    by_lead (Fault kind ahead) e s ih = subst (IsReading language at (b ∷ bs)) (sym (lexemes_fault language at b bs kind ahead e)) (here s.0 (s.1 at))

pub read_cut : (language : Language) (n at : ℕ) (bytes : List ℕ) (ps : List Lexeme) → length bytes ≤ n → lexemes_from language 0 at bytes ≡ Ok ps
    → IsCut language at bytes ps
read_cut language n at bytes ps l h = subst (IsReading language at bytes) h (read_is language n at bytes l)

pub read_fault : (language : Language) (n at : ℕ) (bytes : List ℕ) (fault : ExprFault) → length bytes ≤ n → lexemes_from language 0 at bytes ≡ Err fault
    → IsFirstTokenFault language at bytes fault
read_fault language n at bytes fault l h = subst (IsReading language at bytes) h (read_is language n at bytes l)

-- the tokens that a call appends to an empty list are those into which the token language cuts the line
pub cut_of_call : (language : Language) (line : List ℕ) (before : List CodeToken) (ps : List Lexeme) → before ≡ []
    → with_front (lexemes_of before) (lexemes_from language 0 0 line) ≡ Ok ps → IsCut language 0 line ps
cut_of_call language line before ps e h =
    read_cut language (length line) 0 line ps (omega arith)
    (sym (with_front_none (lexemes_from language 0 0 line)) ∙ ap (λ x. with_front (lexemes_of x) (lexemes_from language 0 0 line)) (sym e) ∙ h)

pub fault_of_call : (language : Language) (line : List ℕ) (fault : ExprFault) → IsOutOfMemory fault ⊎ (lexemes_from language 0 0 line ≡ Err fault)
    → IsOutOfMemory fault ⊎ IsFirstTokenFault language 0 line fault
fault_of_call language line fault (inl m) = inl m
fault_of_call language line fault (inr h) = inr (read_fault language (length line) 0 line fault (omega arith) h)

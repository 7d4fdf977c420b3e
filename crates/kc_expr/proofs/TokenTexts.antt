-- A property that a line has and each part of it keeps holds of its tokens.
use Rattle.kc_expr.proofs.Common.{◌≡◌, ℕ, zero, suc, ◌+◌, pred, List, [], ◌∷◌, Result, Ok, Err, subst, refl, take, with_front, Language, Lexeme, lexemes_from, ExprFault, NextToken, White, Comment, Token, Fault}
use Rattle.kc_tokens.specs.Token.{next_token}

abbrev pub AllTexts : (List ℕ → Type 0) → List Lexeme → Type 0
AllTexts P [] = Unit {0}
AllTexts P (t ∷ ts) = P t.text × AllTexts P ts

pub front_ok : (p : Lexeme) (r : Result (List Lexeme) ExprFault) (ts : List Lexeme) → with_front (p ∷ []) r ≡ Ok ts
    → (us : List Lexeme) × (r ≡ Ok us) × (p ∷ us ≡ ts)
front_ok p (Ok us) ts h = (us, refl, cc)
front_ok p (Err e) ts h = cc

module _ (language : Language) (P : List ℕ → Type 0) (front : (n : ℕ) (xs : List ℕ) → P xs → P (take n xs))
    (behind : (x : ℕ) (xs : List ℕ) → P (x ∷ xs) → P xs) where
  texts_of_lead : (b : ℕ) (bs : List ℕ) (at : ℕ) (x : NextToken) (ts : List Lexeme) → P (b ∷ bs)
      → ((skip n : ℕ) (us : List Lexeme) → lexemes_from language skip n bs ≡ Ok us → AllTexts P us)
      → elim x as (λ _. Result (List Lexeme) ExprFault) [
        | White ↦ lexemes_from language 0 (at + 1) bs
        | Comment ↦ Ok []
        | Token kind len ↦ with_front (record { kind = kind; start = at; stop = at + len; text = take len (b ∷ bs) } ∷ [])
            (lexemes_from language (pred len) (at + 1) bs)
        | Fault kind ahead ↦ Err (record { offset = at + ahead; kind = kind })
      ] ≡ Ok ts → AllTexts P ts
  texts_of_lead b bs at White ts p ih h = ih 0 (at + 1) ts h
  texts_of_lead b bs at Comment [] p ih h = tt
  texts_of_lead b bs at Comment (t ∷ ts) p ih h = cc
  texts_of_lead b bs at (Token kind len) ts p ih h =
      let r = front_ok (record { kind = kind; start = at; stop = at + len; text = take len (b ∷ bs) }) (lexemes_from language (pred len) (at + 1) bs) ts h in
      subst (AllTexts P) r.2 (front len (b ∷ bs) p, ih (pred len) (at + 1) r.0 r.1)
  texts_of_lead b bs at (Fault kind ahead) ts p ih h = cc

  -- where a line has a property that its parts keep, the texts of its tokens have it
  pub texts_of_line : (skip at : ℕ) (bytes : List ℕ) (ts : List Lexeme) → P bytes → lexemes_from language skip at bytes ≡ Ok ts → AllTexts P ts
  texts_of_line skip at [] [] p h = tt
  texts_of_line skip at [] (t ∷ ts) p h = cc
  texts_of_line (suc skip) at (b ∷ bs) ts p h = texts_of_line skip (at + 1) bs ts (behind b bs p) h
  texts_of_line zero at (b ∷ bs) ts p h = texts_of_lead b bs at (next_token language (b ∷ bs)) ts p
      (λ skip n us e. texts_of_line skip n bs us (behind b bs p) e) h

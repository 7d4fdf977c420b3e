-- The plain spelling of an expression, in tokens, with the fewest parentheses.
use Rattle.std.specs.Prelude.{◌≡◌, ℕ, ◌<◌, suc, List, [], ◌∷◌, ◌++◌, Some, Ok, true, false, ⊤, length, map, codes, nat_lt, ◌==◌, if◌then◌else◌}
use Rattle.std.specs.List.{list_all, list_any}
use Rattle.kc_value.specs.QuotedTexts.{quoted as quoted_spelling}
use Rattle.kc_tokens.specs.TokenGrammar.{relation_text}
use Rattle.kc_tokens.specs.declared.token.TokenKind.{TokenKind}
use Rattle.kc_tokens.specs.declared.token.TokenKind.TheVariants.{Word, Quoted, Relation, Not, And, Or, Open, Close}
use Rattle.kc_tokens.specs.declared.language.Language.{Language}
use Rattle.kc_tokens.specs.Token.{Lexeme, is_word_byte, lexemes_from}
use Rattle.kc_expr.specs.Expr.{Expr, Operand, constant, named, quoted, alone, related, negated, both, either, shown}
use Rattle.kc_value.specs.Tri.{letter}
use Rattle.kc_expr.specs.Grammar.{Level, ors, ands, factor, operand_of_lexeme}

-- a token, at no place
abbrev pub token : TokenKind → List ℕ → Lexeme
token kind text = record { kind = kind; start = 0; stop = 0; text = text }

abbrev pub operand_token : Operand → Lexeme
operand_token (constant t) = token Word (letter t)
operand_token (named x) = token Word x
operand_token (quoted x) = token Quoted (quoted_spelling x)

abbrev pub in_parentheses : List Lexeme → List Lexeme
in_parentheses ts = token Open (codes "(") ∷ (ts ++ token Close (codes ")") ∷ [])

-- two sides of an operator, with the operator between them
abbrev pub joined : Lexeme → List Lexeme → List Lexeme → List Lexeme
joined o ts us = ts ++ o ∷ us

-- the operand of a `!`: a relation has parentheses there, without which it is read as the same tree but easily misread
abbrev pub under_not : Expr → List Lexeme → List Lexeme
under_not (related op a b) ts = in_parentheses ts
under_not _ ts = ts

-- the spelling of an expression at a level; it has parentheses where it would be read as another tree without them, and "shown" has
-- no spelling of its own
abbrev pub spelling : Level → Expr → List Lexeme
spelling l (alone a) = operand_token a ∷ []
spelling l (related op a b) = operand_token a ∷ token (Relation op) (relation_text op) ∷ operand_token b ∷ []
spelling l (negated e) = token Not (codes "!") ∷ under_not e (spelling factor e)
spelling ors (either a b) = joined (token Or (codes "||")) (spelling ors a) (spelling ands b)
spelling ands (either a b) = in_parentheses (joined (token Or (codes "||")) (spelling ors a) (spelling ands b))
spelling factor (either a b) = in_parentheses (joined (token Or (codes "||")) (spelling ors a) (spelling ands b))
spelling ors (both a b) = joined (token And (codes "&&")) (spelling ands a) (spelling factor b)
spelling ands (both a b) = joined (token And (codes "&&")) (spelling ands a) (spelling factor b)
spelling factor (both a b) = in_parentheses (joined (token And (codes "&&")) (spelling ands a) (spelling factor b))
spelling l (shown e) = spelling l e

-- the larger of two numbers
abbrev pub deeper : ℕ → ℕ → ℕ
deeper m n = if nat_lt m n then n else m

-- how many `!` and parentheses enclose the deepest symbol of the operand of a `!`
abbrev pub depth_under_not : Expr → ℕ → ℕ
depth_under_not (related op a b) n = suc n
depth_under_not _ n = n

-- how many `!` and parentheses enclose its deepest symbol
abbrev pub depth : Level → Expr → ℕ
depth l (alone a) = 0
depth l (related op a b) = 0
depth l (negated e) = suc (depth_under_not e (depth factor e))
depth ors (either a b) = deeper (depth ors a) (depth ands b)
depth ands (either a b) = suc (deeper (depth ors a) (depth ands b))
depth factor (either a b) = suc (deeper (depth ors a) (depth ands b))
depth ors (both a b) = deeper (depth ands a) (depth factor b)
depth ands (both a b) = deeper (depth ands a) (depth factor b)
depth factor (both a b) = suc (deeper (depth ands a) (depth factor b))
depth l (shown e) = depth l e

-- an operand is read back: a name and a quoted text are none of `n`, `m`, `y`
abbrev pub IsReadBack : Operand → Type 0
IsReadBack a = operand_of_lexeme (operand_token a) ≡ Some a

-- an expression without "shown", of such operands
abbrev pub IsPlain : Expr → Type 0
IsPlain (alone a) = IsReadBack a
IsPlain (related op a b) = IsReadBack a × IsReadBack b
IsPlain (negated e) = IsPlain e
IsPlain (both a b) = IsPlain a × IsPlain b
IsPlain (either a b) = IsPlain a × IsPlain b
IsPlain (shown e) = ⊥

-- the text of a token in a printed line: a binary operator has a space on each side
abbrev pub token_text : TokenKind → List ℕ → List ℕ
token_text And text = 32 ∷ (text ++ 32 ∷ [])
token_text Or text = 32 ∷ (text ++ 32 ∷ [])
token_text (Relation op) text = 32 ∷ (text ++ 32 ∷ [])
token_text _ text = text

-- the text of some tokens
abbrev pub text_of_tokens : List Lexeme → List ℕ
text_of_tokens [] = []
text_of_tokens (t ∷ ts) = token_text t.kind t.text ++ text_of_tokens ts

-- an operand is read from a line: a name is a word, and a quoted text has no `$`
abbrev pub IsLine : Operand → Type 0
IsLine (constant t) = ⊤
IsLine (named x) = (0 < length x) × (list_all is_word_byte x ≡ true)
IsLine (quoted x) = list_any (λ c. c == 36) x ≡ false

-- an expression of such operands
abbrev pub HasLineOperands : Expr → Type 0
HasLineOperands (alone a) = IsLine a
HasLineOperands (related op a b) = IsLine a × IsLine b
HasLineOperands (negated e) = HasLineOperands e
HasLineOperands (both a b) = HasLineOperands a × HasLineOperands b
HasLineOperands (either a b) = HasLineOperands a × HasLineOperands b
HasLineOperands (shown e) = HasLineOperands e

-- a line is read as these tokens, apart from their places
pub record IsReadAs (language : Language) (at : ℕ) (line : List ℕ) (ts : List Lexeme) : Type 0 where
  pub ps : List Lexeme
  pub read : lexemes_from language 0 at line ≡ Ok ps
  pub same : map (λ (p : Lexeme). token p.kind p.text) ps ≡ ts

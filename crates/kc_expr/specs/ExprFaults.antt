-- The fault of tokens that are no expression ("Menu dependencies").
use Rattle.std.specs.Prelude.{◌≡◌, ℕ, true, List, [], ◌∷◌, ◌++◌}
use Rattle.kc_value.specs.declared.limits.TheConstants.{MAX_EXPR_DEPTH}
use Rattle.kc_tokens.specs.declared.fault.ExprKind.{ExprKind}
use Rattle.kc_tokens.specs.declared.fault.ExprKind.TheVariants.{Malformed, TooDeep}
use Rattle.kc_expr.specs.Expr.{Expr}
use Rattle.kc_expr.specs.Grammar.{IsExpr, ors, is_operand_kind}
use Rattle.kc_tokens.specs.Token.{Lexeme}

-- tokens begin an expression with at most this many `!` and parentheses around a symbol: together with some tokens after them, or
-- none, they form one
abbrev pub IsBeginning : ℕ → List Lexeme → Type 0
IsBeginning d ts = (us : List Lexeme) × (e : Expr) × IsExpr ors d (ts ++ us) e

-- A token has a fault after the tokens before it. Malformed: no expression, however deep, begins with those tokens and then this
-- one. TooDeep: an expression does, but none within the limit of depth, and the token is an operand.
pub data IsFault : List Lexeme → Lexeme → ExprKind → Type 0 where
  malformed : {ts : List Lexeme} {t : Lexeme} → ((d : ℕ) → IsBeginning d (ts ++ t ∷ []) → ⊥) → IsFault ts t Malformed
  too_deep : {ts : List Lexeme} {t : Lexeme} (d : ℕ) → is_operand_kind t.kind ≡ true → IsBeginning d (ts ++ t ∷ [])
      → (IsBeginning MAX_EXPR_DEPTH (ts ++ t ∷ []) → ⊥) → IsFault ts t TooDeep

-- no token of a list has a fault after the tokens before it
abbrev pub HasNoFault : List Lexeme → Type 0
HasNoFault ts = (us vs : List Lexeme) (t : Lexeme) (kind : ExprKind) → ts ≡ us ++ t ∷ vs → IsFault us t kind → ⊥

-- The first fault of tokens as an expression, and the tokens from its place on: that of the first token that has a fault; if none
-- has and the tokens are no expression, Malformed at their end.
pub data IsFirstExprFault : List Lexeme → ExprKind × List Lexeme → Type 0 where
  at_token : {ts us : List Lexeme} {kind : ExprKind} (front : List Lexeme) (t : Lexeme) → ts ≡ front ++ t ∷ us → HasNoFault front
      → IsFault front t kind → IsFirstExprFault ts (kind, t ∷ us)
  at_end : {ts : List Lexeme} → HasNoFault ts → ((e : Expr) → IsExpr ors MAX_EXPR_DEPTH ts e → ⊥) → IsFirstExprFault ts (Malformed, [])

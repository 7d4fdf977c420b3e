-- The result of a call of the parser.
use Rattle.std.specs.Prelude.{◌≡◌, ℕ, ◌+◌, Bool, List, length, take, drop, if◌then◌else◌}
use Rattle.kc_value.specs.declared.limits.TheConstants.{MAX_EXPR_DEPTH}
use Rattle.kc_tokens.specs.declared.fault.ExprFault.{ExprFault}
use Rattle.kc_tokens.specs.declared.fault.ExprKind.{ExprKind}
use Rattle.kc_expr.specs.between.Arena.{Exprs, Represents}
use Rattle.kc_expr.specs.Expr.{Expr, conditional}
use Rattle.kc_expr.specs.ExprFaults.{IsFirstExprFault}
use Rattle.kc_expr.specs.Grammar.{IsExpr, ors, extent, fault_of}
use Rattle.kc_tokens.specs.Token.{Lexeme}

-- the tokens of the expression that begins at an index of a line's tokens
abbrev pub expr_tokens : List Lexeme → ℕ → List Lexeme
expr_tokens all at = extent (drop at all)

-- the index after the last token of the expression that begins at an index of a line's tokens
abbrev pub expr_end : List Lexeme → ℕ → ℕ
expr_end all at = at + length (expr_tokens all at)

-- tokens are an expression of the grammar, which a node represents, as a condition or as a value
pub record ReadsExpr (a : Exprs) (id : ℕ) (condition : Bool) (ts : List Lexeme) : Type 0 where
  pub expr : Expr
  pub in_grammar : IsExpr ors MAX_EXPR_DEPTH ts expr
  pub represents : Represents a id (if condition then conditional expr else expr)

-- the tokens at an index form no expression, and a fault is their first one, with its place in the line
pub record RefusesExpr (all : List Lexeme) (at : ℕ) (e : ExprFault) : Type 0 where
  pub not_in_grammar : (x : Expr) → IsExpr ors MAX_EXPR_DEPTH (expr_tokens all at) x → ⊥
  pub fault : ExprKind × List Lexeme
  pub first : IsFirstExprFault (expr_tokens all at) fault
  pub placed : e ≡ fault_of (take (expr_end all at) all) fault

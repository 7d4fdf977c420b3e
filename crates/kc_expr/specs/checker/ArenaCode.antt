-- How what contracts see of an arena is stored.
use Rattle.std.specs.Prelude.{ℕ, List, refl}
use Rattle.std.specs.Coded.{Coded, code_by, coded×, coded_ℕ, coded_list}
use Rattle.kc_expr.specs.between.Arena.{Exprs}
use Rattle.kc_expr.specs.Expr.{Expr}
use Rattle.kc_expr.specs.checker.ExprCode.{expr_code}

-- the stored form of what contracts see of an arena: its names, which are lists of bytes, and the expressions of its nodes
abbrev pub exprs_code : Coded Exprs
exprs_code = code_by (List (List ℕ) × List Expr) (coded× (coded_list (coded_list coded_ℕ)) (coded_list expr_code)) (λ a. (a.names, a.nodes)) (λ p. record { names = p.0; nodes = p.1 }) (λ _. refl)

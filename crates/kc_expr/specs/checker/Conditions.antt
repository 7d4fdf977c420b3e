-- An expression as a condition or as a value.
use Rattle.std.specs.Prelude.{Bool, if◌then◌else◌}
use Rattle.kc_expr.specs.Expr.{Expr, conditional}

-- what an expression that was read means: as a condition (`conditional`) if the flag is true, else the expression itself
abbrev pub as_condition : Bool → Expr → Expr
as_condition condition e = if condition then conditional e else e

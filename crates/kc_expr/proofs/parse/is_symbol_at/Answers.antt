use Rattle.kc_expr.proofs.Common.{arith, common_steps}
use Rattle.kc_expr.proofs.parse.is_symbol_at.Goals as goal

pub returns-else-is_kind_at : goal.returns-else-is_kind_at
returns-else-is_kind_at c = grind (arith, common_steps)

pub returns-then-is_kind_at : goal.returns-then-is_kind_at
returns-then-is_kind_at c = grind (arith, common_steps)

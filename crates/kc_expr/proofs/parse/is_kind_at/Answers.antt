use Rattle.kc_expr.proofs.Common.{ap, ◌∙◌, Some, arith, common_steps}
use Rattle.kc_expr.proofs.TokenPlaces.{kind_at, kind_is}
use Rattle.kc_expr.proofs.parse.is_kind_at.Goals as goal

pub returns-then-at-tokens : goal.returns-then-at-tokens
returns-then-at-tokens c = (
  λ t. kind_at c.args.tokens.now c.args.at _ c.if-at-tokens.true ∙ ap Some (c.same_kind.ensures.0 t),
  λ e. c.same_kind.ensures.1 (kind_is c.args.tokens.now c.args.at _ c.args.kind c.if-at-tokens.true e),
)

pub returns-else-at-tokens : goal.returns-else-at-tokens
returns-else-at-tokens c = grind (arith, common_steps)

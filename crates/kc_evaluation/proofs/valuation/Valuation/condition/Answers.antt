use Rattle.kc_evaluation.proofs.Common.{◌∙◌, arith, common_steps, node_expr, valuation_tree, valuation_exprs, valuation_values}
use Rattle.kc_evaluation.proofs.HeldNames.{values_agree}
use Rattle.kc_evaluation.proofs.valuation.Valuation.condition.Goals as goal

pub returns : goal.returns
returns c = record {
  value = (rw c.arena.ensures.arena at c.value.ensures.value) ∙ values_agree (valuation_tree c.args.self.now) (valuation_values c.args.self.now)
      (valuation_exprs c.args.self.now).names c.arena.ensures.absent (node_expr (valuation_exprs c.args.self.now) c.args.id);
}

pub value-requires : goal.value-requires
value-requires c = grind (arith, common_steps)

use Rattle.kmin_faults.proofs.Common.{sym, ◌∙◌, IfOk-weaker}
use Rattle.kmin_faults.proofs.StoredCauses.{prompts_shown}
use Rattle.kmin_faults.proofs.naming_parts.SymNamesUnit.names_unit.Goals as goal

pub returns : goal.returns
returns c = record {
  value = IfOk-weaker c.is_in_some.result _ _
      (λ is e. e ∙ sym (prompts_shown c.args.search.now.tree.now.tree c.args.search.now.tree.now.exprs c.args.search.now.unit c.args.self.now c.symbol.result c.symbol.ensures.symbol))
      c.is_in_some.ensures.value;
}

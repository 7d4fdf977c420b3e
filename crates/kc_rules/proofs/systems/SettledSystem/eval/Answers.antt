use Rattle.kc_rules.proofs.Common.{sym, subst, IsTrue, rules, ∥∥₁_elim, IfOk-weaker}
use Rattle.std.specs.Option.{option_copied}
use Rattle.std.proofs.Math.Bool.{Bool-set}
use Rattle.kc_rules_model.specs.Shapes.{value_fits}
use Rattle.kc_rules_model.proofs.FittingValues.{rules_fit}
use Rattle.kc_rules.proofs.systems.SettledSystem.eval.Goals as goal

pub returns-clause-fits : goal.returns-clause-fits
returns-clause-fits c =
    let r = c.args.self.now.rules in
    let t = r.tree.tree in
    IfOk-weaker c.value_of.result _ _ (λ value same. subst (λ w. IsTrue (value_fits t c.args.u w)) (sym same)
    (∥∥₁_elim r.consistent (Bool-set _ _) (λ sound. rules_fit r.profile t c.args.u (option_copied c.args.user) c.args.values.now sound c.requires.unit
    c.requires.user c.requires.values))) c.value_of.ensures.ok

pub returns-clause-step : goal.returns-clause-step
returns-clause-step c = search rules

use Rattle.kc_config_reasons.proofs.Common.{ap, sym, subst, ◌∙◌, user_of, tree_in}
use Rattle.std.specs.Prelude.{IfSome, IsTrue}
use Rattle.kc_rules_model.specs.Shapes.{user_fits}
use Rattle.kc_config_reasons.proofs.config_reasons.user_in.Goals as goal

pub returns-clause-fits : goal.returns-clause-fits
returns-clause-fits c =
    let is = c.user_at.ensures ∙ ap (λ users. user_of users c.args.unit) c.users.ensures.users in
    subst (λ o. IfSome o (λ x. IsTrue (user_fits (tree_in c.args.config.now) c.args.unit x))) (sym is) (c.users.ensures.solved.fits.1 c.args.unit c.requires.unit)

use Rattle.kc_config_reasons.proofs.Common.{◌≡◌, ap, ◌∙◌, option_copied, user_of, TreeModel, unit_of, tree_model_of, profile_of}
use Rattle.kc_config_reasons.proofs.ReasonsHold.{unit_inside, all_hold}
use Rattle.kc_config_reasons.proofs.config_reasons.reasons_in.Goals as goal

pub returns-clause-reasons : goal.returns-clause-reasons
returns-clause-reasons c =
    let config = c.args.config.now in
    let s = c.args.s in
    let same_settled = c.settled-settled.ensures in
    let same_tree : c.tree.result.now ≡ tree_model_of config.system = c.tree.ensures.tree ∙ ap tree_model_of same_settled in
    let inside = unit_inside c.tree.result.now (tree_model_of config.system) s c.symbol-unit.result.unit same_tree c.symbol-unit.ensures.unit c.symbol-unit.ensures.within in
    all_hold config s c.rules.result.now.profile c.rules.result.now.tree (option_copied c.user_in.result) c.values-values.result.now c.reasons_of.result c.values-values.ensures.solved inside
    (c.rules.ensures.profile ∙ ap profile_of same_settled) (c.rules.ensures.tree ∙ ap tree_model_of same_settled)
    (c.user_in.ensures.user ∙ ap (user_of config.users) (c.symbol-unit.ensures.unit ∙ ap (λ (t : TreeModel). unit_of t.tree s) same_tree)) c.values-values.ensures.values c.reasons_of.ensures.ok

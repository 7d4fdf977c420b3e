use Rattle.kc_evaluation.proofs.Common.{sym, ◌∙◌, default_view}
use Rattle.kc_tree_model.specs.Trees.{Default}
use Rattle.kc_dependencies.proofs.Pushes.{any_map}
use Rattle.kc_evaluation.proofs.tristate_rules.is_from_environment.Goals as goal

pub returns : goal.returns
returns c = λ exprs. c.has_environment_default.ensures ∙ sym (any_map (λ (d : Default). d.from_environment) (default_view exprs) c.args.symbol.now.defaults.now)

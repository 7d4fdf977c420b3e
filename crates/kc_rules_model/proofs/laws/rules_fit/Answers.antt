use Rattle.kc_rules_model.proofs.FittingValues.{rules_fit as law}
use Rattle.kc_rules_model.proofs.laws.rules_fit.Goals as goal

pub returns : goal.returns
returns c = law

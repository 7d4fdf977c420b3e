use Rattle.kc_rules_model.proofs.SolutionsFit.{all_solutions_fit}
use Rattle.kc_rules_model.proofs.laws.solutions_fit.Goals as goal

pub returns : goal.returns
returns c = all_solutions_fit

use Rattle.kc_macros_model.proofs.WantedQuestions.{wanted_is_needed}
use Rattle.kc_macros_model.proofs.laws.wanted_is_needed.Goals as goal

pub returns : goal.returns
returns c = wanted_is_needed

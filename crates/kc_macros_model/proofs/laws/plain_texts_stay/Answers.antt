use Rattle.kc_macros_model.proofs.RuleExpansions.{plain_texts_stay}
use Rattle.kc_macros_model.proofs.laws.plain_texts_stay.Goals as goal

pub returns : goal.returns
returns c = plain_texts_stay

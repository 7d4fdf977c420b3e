use Rattle.kc_rules_model.proofs.AssignedTexts.{texts_assigned}
use Rattle.kc_rules_model.proofs.laws.texts_are_assigned.Goals as goal

pub returns : goal.returns
returns c = texts_assigned

use Rattle.kc_reasons_model.proofs.laws.overridden_lines_are_listed.Goals as goal
use Rattle.kc_reasons_model.proofs.OverriddenLaws.{listed_overridden, overridden_listed}

pub returns : goal.returns
returns c = record { listed = listed_overridden; all = overridden_listed }

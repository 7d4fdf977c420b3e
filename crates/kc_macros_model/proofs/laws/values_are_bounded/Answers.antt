use Rattle.kc_macros_model.proofs.Bounds.{values_are_bounded, variables_are_bounded}
use Rattle.kc_macros_model.proofs.laws.values_are_bounded.Goals as goal

pub returns : goal.returns
returns c = record { texts = values_are_bounded; variables = variables_are_bounded }

use Rattle.kc_macros_model.proofs.SecondExpansions.{nothing_is_left, written_lines_stay}
use Rattle.kc_macros_model.proofs.laws.nothing_is_left_to_expand.Goals as goal

pub returns : goal.returns
returns c = record { tokens = nothing_is_left; lines = written_lines_stay }

use Rattle.kc_macros_model.proofs.TreeAnswers.{nothing_wanted, nothing_wanted_returns}
use Rattle.kc_macros_model.proofs.laws.nothing_wanted_is_expanded.Goals as goal

pub returns : goal.returns
returns c = record { no_fault = nothing_wanted; files = nothing_wanted_returns }

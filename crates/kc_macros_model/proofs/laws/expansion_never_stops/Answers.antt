use Rattle.kc_macros_model.proofs.KnownTrees.{expansion_never_stops}
use Rattle.kc_macros_model.proofs.laws.expansion_never_stops.Goals as goal

pub returns : goal.returns
returns c = expansion_never_stops

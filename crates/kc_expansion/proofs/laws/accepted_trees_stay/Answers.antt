use Rattle.kc_expansion.proofs.AcceptedTrees.{accepted_trees_stay, accepted_trees_want_nothing}
use Rattle.kc_expansion.proofs.SameReadings.{readings_stay}
use Rattle.kc_expansion.proofs.laws.accepted_trees_stay.Goals as goal

pub returns : goal.returns
returns c = record { files = accepted_trees_stay; questions = accepted_trees_want_nothing; reading = readings_stay }

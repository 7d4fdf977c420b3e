use Rattle.kc_minimal_model.proofs.LineUnits.{different_units}
use Rattle.kc_minimal_model.proofs.laws.minimal_lines_differ.Goals as goal

pub returns : goal.returns
returns c = λ profile tree users values sound fitting solved. different_units profile tree sound users values fitting solved

use Rattle.kc_minimal_model.proofs.KeptLines.{read_as_assignment}
use Rattle.kc_minimal_model.proofs.laws.minimal_lines_are_read.Goals as goal

pub returns : goal.returns
returns c = λ format valid profile tree users values sound fitting solved. read_as_assignment format valid profile tree sound users values fitting solved

use Rattle.kmin_lines.proofs.LastLines.{last_ones}
use Rattle.kmin_lines.proofs.laws.last_lines_are_lacking.Goals as goal

pub returns : goal.returns
returns c = last_ones

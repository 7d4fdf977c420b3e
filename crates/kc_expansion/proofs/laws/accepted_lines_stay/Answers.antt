use Rattle.kc_expansion.proofs.AcceptedLines.{accepted_lines_stay}
use Rattle.kc_expansion.proofs.laws.accepted_lines_stay.Goals as goal

pub returns : goal.returns
returns c = accepted_lines_stay

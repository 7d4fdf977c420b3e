use Rattle.kc_macros_model.proofs.KeptLines.{lines_are_kept}
use Rattle.kc_macros_model.proofs.laws.lines_are_kept.Goals as goal

pub returns : goal.returns
returns c = lines_are_kept

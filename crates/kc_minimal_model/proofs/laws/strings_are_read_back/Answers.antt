use Rattle.kc_minimal_model.proofs.LineReads.{strings_read_back}
use Rattle.kc_minimal_model.proofs.laws.strings_are_read_back.Goals as goal

pub returns : goal.returns
returns c = strings_read_back

use Rattle.kc_minimal_model.proofs.FileAcceptance.{read_accepted}
use Rattle.kc_minimal_model.proofs.laws.read_files_are_accepted.Goals as goal

pub returns : goal.returns
returns c = read_accepted

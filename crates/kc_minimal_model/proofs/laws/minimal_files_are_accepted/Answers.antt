use Rattle.kc_minimal_model.proofs.MinimalFileLimits.{minimal_files_accepted}
use Rattle.kc_minimal_model.proofs.laws.minimal_files_are_accepted.Goals as goal

pub returns : goal.returns
returns c = minimal_files_accepted

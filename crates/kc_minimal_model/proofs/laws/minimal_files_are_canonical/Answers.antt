use Rattle.kc_minimal_model.proofs.Headlines.{canonical}
use Rattle.kc_minimal_model.proofs.laws.minimal_files_are_canonical.Goals as goal

pub returns : goal.returns
returns c = canonical

use Rattle.kc_minimal_model.proofs.FullFileLemmas.{full_files_back}
use Rattle.kc_minimal_model.proofs.laws.full_files_lead_back.Goals as goal

pub returns : goal.returns
returns c = full_files_back

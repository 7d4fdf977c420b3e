use Rattle.kc_minimal_model.proofs.Headlines.{differences_decide_files}
use Rattle.kc_minimal_model.proofs.laws.differences_decide_minimal_files.Goals as goal

pub returns : goal.returns
returns c = differences_decide_files

use Rattle.kc_minimal_model.proofs.FilesAssign.{files_assign}
use Rattle.kc_minimal_model.proofs.laws.files_assign_the_lines.Goals as goal

pub returns : goal.returns
returns c = files_assign

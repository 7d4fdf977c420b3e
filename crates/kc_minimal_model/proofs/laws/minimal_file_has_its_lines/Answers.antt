use Rattle.kc_minimal_model.proofs.MinimalLineList.{file_lines_listed}
use Rattle.kc_minimal_model.proofs.laws.minimal_file_has_its_lines.Goals as goal

pub returns : goal.returns
returns c = file_lines_listed

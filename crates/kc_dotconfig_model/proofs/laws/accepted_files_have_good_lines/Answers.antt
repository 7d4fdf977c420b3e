use Rattle.kc_dotconfig_model.proofs.AcceptedLines.{accepted_exactly}
use Rattle.kc_dotconfig_model.proofs.laws.accepted_files_have_good_lines.Goals as goal

pub returns : goal.returns
returns c = accepted_exactly

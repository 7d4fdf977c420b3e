use Rattle.kc_dotconfig_model.proofs.AcceptedFiles.{accepted_read}
use Rattle.kc_dotconfig_model.proofs.laws.accepted_files_are_read.Goals as goal

pub returns : goal.returns
returns c = accepted_read

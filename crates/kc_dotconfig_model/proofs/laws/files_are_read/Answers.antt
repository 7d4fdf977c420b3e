use Rattle.kc_dotconfig_model.proofs.LineLaws.{file_read}
use Rattle.kc_dotconfig_model.proofs.laws.files_are_read.Goals as goal

pub returns : goal.returns
returns c = file_read

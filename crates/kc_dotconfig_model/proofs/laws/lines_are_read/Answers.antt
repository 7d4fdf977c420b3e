use Rattle.kc_dotconfig_model.proofs.LineLaws.{line_read}
use Rattle.kc_dotconfig_model.proofs.laws.lines_are_read.Goals as goal

pub returns : goal.returns
returns c = line_read

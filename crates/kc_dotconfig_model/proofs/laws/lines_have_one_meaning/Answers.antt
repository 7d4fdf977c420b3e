use Rattle.kc_dotconfig_model.proofs.LineLaws.{line_means_one, file_means_one}
use Rattle.kc_dotconfig_model.proofs.laws.lines_have_one_meaning.Goals as goal

pub returns : goal.returns
returns c = record { line = line_means_one; file = file_means_one }

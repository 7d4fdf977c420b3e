use Rattle.kc_dotconfig_model.proofs.LineForms.{prefixed_lines_have_values as law}
use Rattle.kc_dotconfig_model.proofs.laws.prefixed_lines_have_values.Goals as goal

pub returns : goal.returns
returns c = law

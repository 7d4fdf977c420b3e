use Rattle.kc_dotconfig_model.proofs.OtherLines.{have_reasons, have_lines, files_merged}
use Rattle.kc_dotconfig_model.proofs.laws.other_choices_have_reasons.Goals as goal

pub returns : goal.returns
returns c = record { reasons = have_reasons; lines = have_lines; files = files_merged }

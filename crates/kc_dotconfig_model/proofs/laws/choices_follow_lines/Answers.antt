use Rattle.kc_dotconfig_model.proofs.ChoiceValues.{follow_lines, notices_where_differing, differing_reasons}
use Rattle.kc_dotconfig_model.proofs.laws.choices_follow_lines.Goals as goal

pub returns : goal.returns
returns c = record { values = follow_lines; notices = notices_where_differing; reasons = differing_reasons }

use Rattle.kc_evaluation.proofs.Bounds.{zero_hex, zero_other}
use Rattle.kc_evaluation.proofs.text_rules.zero_text.Goals as goal

pub returns-in-Hex : goal.returns-in-Hex
returns-in-Hex c = zero_hex c.args.kind c.in-Hex.is

pub returns-in_default : goal.returns-in_default
returns-in_default c = zero_other c.args.kind c.in_default.not-Hex

use Rattle.kc_dotconfig_model.proofs.Common.{arith, common_steps}
use Rattle.kc_dotconfig_model.proofs.line_parts.is_comment.Goals as goal

pub loop-byte-preserved : goal.loop-byte-preserved
loop-byte-preserved c = grind (arith, common_steps)

pub returns-then-not-is_white : goal.returns-then-not-is_white
returns-then-not-is_white c = grind (arith, common_steps)

pub returns : goal.returns
returns c = grind (arith, common_steps)

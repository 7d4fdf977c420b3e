use Rattle.std.proofs.Common.{arith}
use Rattle.std.proofs.lemmas.Grind.{common_steps, elements}
use Rattle.kmin_run.proofs.wants_command.question_lines.Goals as goal

pub returns : goal.returns
returns c = grind (arith, elements)

pub loop-question-preserved : goal.loop-question-preserved
loop-question-preserved c = grind (arith, common_steps)

use Rattle.std.proofs.Common.{◌∙◌}
use Rattle.kmin_run.proofs.QuestionLines.{mapped_lines}
use Rattle.kmin_run.proofs.wants_command.lines_of.Goals as goal

pub returns-clause-text : goal.returns-clause-text
returns-clause-text c = c.in_ok-text.ensures ∙ mapped_lines c.args.asked.now

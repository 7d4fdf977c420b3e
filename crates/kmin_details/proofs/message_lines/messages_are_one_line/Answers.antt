use Rattle.kmin_details.proofs.OneLines.{message_one_line}
use Rattle.kmin_details.proofs.message_lines.messages_are_one_line.Goals as goal

pub returns : goal.returns
returns c = message_one_line

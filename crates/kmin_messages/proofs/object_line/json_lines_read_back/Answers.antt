use Rattle.kmin_messages.proofs.ObjectLines.{one_object}
use Rattle.kmin_messages.proofs.object_line.json_lines_read_back.Goals as goal

pub returns : goal.returns
returns c = one_object

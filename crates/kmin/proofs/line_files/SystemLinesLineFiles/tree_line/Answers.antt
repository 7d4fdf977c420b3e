use Rattle.kmin.proofs.Rereads.{any_result}
use Rattle.kmin.proofs.line_files.SystemLinesLineFiles.tree_line.Goals as goal

pub returns : goal.returns
returns c = any_result c.args.number _

use Rattle.std.proofs.Common.{rules}
use Rattle.kc_files.proofs.file_bytes.read_front.Goals as goal

pub returns-in-AtFailure : goal.returns-in-AtFailure
returns-in-AtFailure g c = search rules

use Rattle.std.proofs.Common.{rules}
use Rattle.kc_dotconfig.proofs.meanings.read_unset.Goals as goal

pub returns-in-Some-default : goal.returns-in-Some-default
returns-in-Some-default c = search rules

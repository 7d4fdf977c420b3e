use Rattle.std.proofs.Common.{rules}
use Rattle.kc_dotconfig.proofs.accumulate.list_choice.Goals as goal

pub returns : goal.returns
returns c = search rules

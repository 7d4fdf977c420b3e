use Rattle.std.proofs.Common.{rules}
use Rattle.kc_dotconfig.proofs.accumulate.take_notice.Goals as goal

pub returns : goal.returns
returns c = search rules

use Rattle.std.proofs.Common.{rules}
use Rattle.kc_config.proofs.config.Config.missed.Goals as goal

pub returns : goal.returns
returns c = search rules

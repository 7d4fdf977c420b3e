use Rattle.std.proofs.Common.{rules}
use Rattle.kc_config.proofs.config.Config.value.Goals as goal

pub returns-in_err-s : goal.returns-in_err-s
returns-in_err-s c = search rules

pub returns : goal.returns
returns c = search rules

use Rattle.std.proofs.Common.{rules}
use Rattle.kc_dotconfig_model.proofs.prefix.Prefix.as_bytes.Goals as goal

pub returns : goal.returns
returns c = search rules

use Rattle.std.proofs.Common.{rules}
use Rattle.kc_rules.proofs.systems.SettledSystem.same.Goals as goal

pub returns-in-Member-None-Member-None : goal.returns-in-Member-None-Member-None
returns-in-Member-None-Member-None c = search rules

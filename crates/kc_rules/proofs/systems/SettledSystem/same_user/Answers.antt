use Rattle.std.proofs.Common.{rules}
use Rattle.kc_rules.proofs.systems.SettledSystem.same_user.Goals as goal

pub returns-in-Member-Member : goal.returns-in-Member-Member
returns-in-Member-Member c = search rules

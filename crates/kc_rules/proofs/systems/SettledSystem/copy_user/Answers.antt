use Rattle.std.proofs.Common.{rules}
use Rattle.kc_rules.proofs.systems.SettledSystem.copy_user.Goals as goal

pub returns-in-Tri : goal.returns-in-Tri
returns-in-Tri c = search rules

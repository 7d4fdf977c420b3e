use Rattle.std.proofs.Common.{sym}
use Rattle.kc_rules.proofs.systems.SettledSystem.copy_value.Goals as goal

pub returns-in-Tri : goal.returns-in-Tri
returns-in-Tri c = sym c.in-Tri.is

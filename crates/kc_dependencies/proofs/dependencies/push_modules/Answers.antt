use Rattle.std.proofs.Common.{rules}
use Rattle.kc_dependencies.proofs.dependencies.push_modules.Goals as goal

pub returns-in-Tristate-clause-units : goal.returns-in-Tristate-clause-units
returns-in-Tristate-clause-units c = search rules

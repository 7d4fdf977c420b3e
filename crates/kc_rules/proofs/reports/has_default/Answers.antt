use Rattle.kc_rules.proofs.Common.{arith, common_steps, elements}
use Rattle.kc_rules.proofs.reports.has_default.Goals as goal

pub active_default-requires-in-Hex : goal.active_default-requires-in-Hex
active_default-requires-in-Hex c = record { fits = grind (arith, elements) }

pub default_value-requires-in-Tristate : goal.default_value-requires-in-Tristate
default_value-requires-in-Tristate c = record { fits = grind (arith, elements) }

pub active_default-requires-in-Int : goal.active_default-requires-in-Int
active_default-requires-in-Int c = grind (arith, common_steps)

pub default_value-requires : goal.default_value-requires
default_value-requires c = grind (arith, common_steps)

pub active_default-requires : goal.active_default-requires
active_default-requires c = grind (arith, common_steps)

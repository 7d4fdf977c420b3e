use Rattle.kc_config.proofs.Common.{◌≡◌, take, units_of}
use Rattle.kc_config.proofs.changes.units_assigned.Given as goal

abbrev pub invariant-loop-unit : goal.invariant-loop-unit
invariant-loop-unit l = l.units.items ≡ units_of (take l.unit-index l.fn.assigns)

use Rattle.std.proofs.Common.{◌≡◌, take, map, string_bytes}
use Rattle.kmin_faults.specs.Cycles.{unit_names}
use Rattle.kmin_faults.proofs.steps.unit_names.Given as goal

abbrev pub invariant-loop-unit : goal.invariant-loop-unit
invariant-loop-unit l = map string_bytes l.names.items ≡ unit_names l.tree.tree (take l.unit-index l.units)

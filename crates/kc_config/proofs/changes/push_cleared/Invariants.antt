use Rattle.kc_config.proofs.Common.{◌≡◌, ◌++◌, take, clears_of}
use Rattle.kc_config.proofs.changes.push_cleared.Given as goal

abbrev pub invariant-loop-unit : goal.invariant-loop-unit
invariant-loop-unit l = l.changes.items ≡ l.fn.changes.items ++ clears_of (take l.unit-index l.fn.units)

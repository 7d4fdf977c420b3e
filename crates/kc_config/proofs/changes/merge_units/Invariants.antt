use Rattle.std.proofs.Common.{filter}
use Rattle.kc_config.proofs.Common.{◌≡◌, ◌++◌, take, is_none, user_of, units_of}
use Rattle.kc_config.proofs.changes.merge_units.Given as goal

abbrev pub invariant-loop-unit : goal.invariant-loop-unit
invariant-loop-unit l = l.valued.items ≡ l.fn.valued.items ++ filter (λ u. is_none (user_of l.fn.users u)) (units_of (take l.unit-index l.fn.assigns))

use Rattle.std.proofs.Common.{◌≡◌, None, replicate}
use Rattle.kc_config.proofs.changes.blank_users.Given as goal

abbrev pub invariant-loop-unit : goal.invariant-loop-unit
invariant-loop-unit l = l.users.items ≡ replicate l._unit None

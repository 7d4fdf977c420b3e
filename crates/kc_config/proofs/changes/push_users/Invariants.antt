use Rattle.kc_config.proofs.Common.{◌≡◌, ◌++◌, take, changes_of}
use Rattle.kc_config.proofs.changes.push_users.Given as goal

abbrev pub invariant-loop-unit : goal.invariant-loop-unit
invariant-loop-unit l = l.changes.items ≡ l.fn.changes.items ++ changes_of (take l.unit-index l.fn.assigns)

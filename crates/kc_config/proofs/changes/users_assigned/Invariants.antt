use Rattle.std.proofs.Common.{◌≤◌}
use Rattle.kc_config.proofs.Common.{◌≡◌, None, replicate, length, take, changed_users, changes_of}
use Rattle.kc_config.proofs.changes.users_assigned.Given as goal

abbrev pub invariant-loop-unit : goal.invariant-loop-unit
invariant-loop-unit l = record {
  within : l.unit-index ≤ length l.fn.assigns;
  size : length l.users.items ≡ l.fn.size;
  users : l.users.items ≡ changed_users (changes_of (take l.unit-index l.fn.assigns)) (replicate l.fn.size None);
}

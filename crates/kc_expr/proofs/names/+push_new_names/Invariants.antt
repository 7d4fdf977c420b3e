use Rattle.kc_expr.proofs.Common.{◌≡◌, ℕ, ◌<◌, length, take, All, stored_names, exprs_in, IsWalking}
use Rattle.kc_expr.proofs.names.+push_new_names.Given as goal

abbrev pub decreases-push_new_names : goal.decreases-push_new_names
decreases-push_new_names l = l.index

abbrev pub invariant-down : goal.invariant-down
invariant-down l = record {
  walking : IsWalking (exprs_in l.store) l.index l.fn.walk l.fn.found.items l.at l.walk l.found.items;
  held : All (λ (i : ℕ). i < length (stored_names l.store)) l.fn.found.items → All (λ (i : ℕ). i < length (stored_names l.store)) l.found.items;
  kept : take (length l.fn.found.items) l.found.items ≡ l.fn.found.items;
}

abbrev pub decreases-down : goal.decreases-down
decreases-down l = l.at

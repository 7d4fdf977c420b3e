use Rattle.kc_expr.proofs.Common.{◌≡◌, ℕ, ◌<◌, ◌≤◌, ◌++◌, [], length, map, take, All, slice_index_or, node_expr, stored_names, exprs_in, names_in_reverse}
use Rattle.kc_expr.proofs.names.+push_names.Given as goal

abbrev pub decreases-push_names : goal.decreases-push_names
decreases-push_names l = l.index

abbrev pub invariant-down : goal.invariant-down
invariant-down l = record {
  below : l.at ≤ l.index;
  words : map (λ i. slice_index_or (stored_names l.store) i []) l.found.items ++ names_in_reverse (node_expr (exprs_in l.store) l.at)
      ≡ map (λ i. slice_index_or (stored_names l.store) i []) l.fn.found.items ++ names_in_reverse (node_expr (exprs_in l.store) l.index);
  held : All (λ (i : ℕ). i < length (stored_names l.store)) l.fn.found.items → All (λ (i : ℕ). i < length (stored_names l.store)) l.found.items;
  kept : take (length l.fn.found.items) l.found.items ≡ l.fn.found.items;
}

abbrev pub decreases-down : goal.decreases-down
decreases-down l = l.at

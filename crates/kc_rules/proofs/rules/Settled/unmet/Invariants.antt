use Rattle.kc_rules.proofs.Common.{◌≡◌, filter, range_with_len, is_unmet, tree_of_settled}
use Rattle.kc_rules.proofs.rules.Settled.unmet.Given as goal

abbrev pub invariant-loop-number : goal.invariant-loop-number
invariant-loop-number l = l.found.items ≡ filter (is_unmet (tree_of_settled l.self) l.values) (range_with_len 0 l.number)

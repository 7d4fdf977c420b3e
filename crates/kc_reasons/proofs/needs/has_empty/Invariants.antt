use Rattle.kc_reasons.proofs.Common.{◌≡◌, drop, list_any, is_empty}
use Rattle.kc_reasons.proofs.needs.has_empty.Given as goal

abbrev pub invariant-loop-list : goal.invariant-loop-list
invariant-loop-list g l = list_any (λ v. is_empty v.items) (drop l.list-index l.lists) ≡ list_any (λ v. is_empty v.items) l.lists

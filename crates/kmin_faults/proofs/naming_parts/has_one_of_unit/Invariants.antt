use Rattle.kmin_faults.proofs.Common.{◌≡◌, [], drop, slice_index_or, list_any, is_of_unit}
use Rattle.kmin_faults.proofs.naming_parts.has_one_of_unit.Given as goal

abbrev pub invariant-loop-name : goal.invariant-loop-name
invariant-loop-name l = list_any (λ name. is_of_unit l.search.tree.now.tree l.search.unit (slice_index_or l.search.tree.now.exprs.names name [])) (drop l.name-index l.names) ≡ list_any (λ name. is_of_unit l.search.tree.now.tree l.search.unit (slice_index_or l.search.tree.now.exprs.names name [])) l.names

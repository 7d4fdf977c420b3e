use Rattle.kc_checks.proofs.Common.{◌≡◌, drop, filter_map, slice_get, Exprs, type_in}
use Rattle.kc_checks.proofs.summary.first_type.Given as goal

abbrev pub invariant-loop-i : goal.invariant-loop-i
invariant-loop-i l = (e : Exprs) → slice_get (filter_map (type_in e) l.lines) 0 ≡ slice_get (filter_map (type_in e) (drop l.i l.lines)) 0

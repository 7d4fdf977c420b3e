use Rattle.kmin_faults.proofs.Common.{◌≡◌, drop, list_any}
use Rattle.kmin_faults.proofs.naming_parts.is_in_some.Given as goal

abbrev pub invariant-loop-part : goal.invariant-loop-part
invariant-loop-part g l = list_any (g.P.NamesUnit.does l.search.tree.now l.search.unit) (drop l.part-index l.parts) ≡ list_any (g.P.NamesUnit.does l.search.tree.now l.search.unit) l.parts

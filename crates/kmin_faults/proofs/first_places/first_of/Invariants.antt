use Rattle.kmin_faults.proofs.Common.{◌≡◌, drop, find, defines}
use Rattle.kmin_faults.proofs.first_places.first_of.Given as goal

abbrev pub invariant-loop-group : goal.invariant-loop-group
invariant-loop-group l = find (defines l.symbol) (drop l.group-index l.groups) ≡ find (defines l.symbol) l.groups

use Rattle.std.proofs.Common.{reverse, take}
use Rattle.kmin_faults.proofs.NearestDefinitions.{HasNearest}
use Rattle.kmin_faults.proofs.first_places.definition_at.Given as goal

abbrev pub invariant-loop-group : goal.invariant-loop-group
invariant-loop-group l = HasNearest (reverse (take l.group-index l.groups)) l.at l.found l.nearest

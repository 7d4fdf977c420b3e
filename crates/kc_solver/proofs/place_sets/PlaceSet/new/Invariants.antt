use Rattle.std.proofs.Common.{◌≡◌, ◌^◌, ◌≤◌, ◌-◌}
use Rattle.kc_solver.specs.checker.PlaceSets.{first_of}
use Rattle.kc_solver.proofs.place_sets.PlaceSet.new.Given as goal

abbrev pub invariant-loop-first : goal.invariant-loop-first
invariant-loop-first l = record {
  starts : l.first ≡ first_of l.levels;
  small : l.first ≤ 2 ^ 39;
  deep : l.levels ≤ l.first;
}

abbrev pub decreases-loop-first : goal.decreases-loop-first
decreases-loop-first l = l.size - l.first

use Rattle.kc_solver.proofs.Common.{ℕ, ◌*◌, ◌/◌, ◌<◌, ◌≤◌, length, AreLevels}
use Rattle.kc_solver.proofs.PlaceSets.{Climbs}
use Rattle.kc_solver.proofs.place_sets.write_place.Given as goal

abbrev pub invariant-loop-follows : goal.invariant-loop-follows
invariant-loop-follows l = record {
  inside : l.bit / 64 < length l.words;
  climbs : (first : ℕ) → AreLevels first l.fn.words → 64 * first ≤ l.at → Climbs first l.fn.words l.words l.at l.bit l.on l.follows;
}

abbrev pub decreases-loop-follows : goal.decreases-loop-follows
decreases-loop-follows l = l.bit

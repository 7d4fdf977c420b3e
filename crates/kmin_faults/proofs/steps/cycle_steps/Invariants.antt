use Rattle.kmin_faults.proofs.Common.{◌≡◌, ◌-◌, length, map, string_bytes, step_at, step_of}
use Rattle.kmin_faults.specs.Cycles.{cycle_steps}
use Rattle.kmin_faults.proofs.Circles.{after}
use Rattle.kmin_faults.proofs.steps.cycle_steps.Given as goal

abbrev pub invariant-loop-at : goal.invariant-loop-at
invariant-loop-at l =
    after (step_at l.tree.tree l.units (map string_bytes l.names)) (map step_of l.steps.items) l.at (length l.units - l.at)
    ≡ cycle_steps l.tree.tree l.units (map string_bytes l.names)

use Rattle.std.proofs.Common.{◌≡◌, ℕ, ◌<◌, ◌≤◌, true, false, Some, slice_get, get_or}
use Rattle.kc_solver.proofs.elimination.first_remaining.Given as goal

abbrev pub invariant-loop-k : goal.invariant-loop-k
invariant-loop-k l = (j d : ℕ) → l.from ≤ j → j < l.k → slice_get l.dependencies j ≡ Some d → get_or l.flags d false ≡ true

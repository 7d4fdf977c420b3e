use Rattle.std.proofs.Common.{◌≡◌, ℕ, ◌<◌, true, false, get_or}
use Rattle.kc_solver.proofs.dependency_order.first_unset.Given as goal

abbrev pub invariant-loop-u : goal.invariant-loop-u
invariant-loop-u l = (w : ℕ) → w < l.u → get_or l.flags w false ≡ true

use Rattle.std.proofs.Common.{arith}
use Rattle.kc_solver.proofs.user_values.mark_if_changed.Goals as goal

pub remove-requires : goal.remove-requires
remove-requires c = λ d. record { there = omega arith }

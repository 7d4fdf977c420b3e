use Rattle.std.proofs.Common.{◌≡◌, None, replicate}
use Rattle.kc_solver.proofs.sessions.Session.new.Given as goal

abbrev pub invariant-loop-u : goal.invariant-loop-u
invariant-loop-u g l = l.users.items ≡ replicate l._u None

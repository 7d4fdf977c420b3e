use Rattle.std.proofs.Common.{◌≡◌, ℕ, ◌<◌, length, slice_get, IfSome}
use Rattle.kc_solver.proofs.solution.blanks.Given as goal

abbrev pub invariant-loop-u : goal.invariant-loop-u
invariant-loop-u g l = record {
  one_each : length l.values.items ≡ l.u;
  fits : (w : ℕ) → w < l.u → IfSome (slice_get l.values.items w) (g.S.System.fits_value l.system w);
}

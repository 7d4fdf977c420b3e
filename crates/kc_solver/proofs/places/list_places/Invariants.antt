use Rattle.std.proofs.Common.{◌≡◌, ◌<◌, ◌≤◌, ℕ, Some, length, slice_get}
use Rattle.kc_solver.proofs.places.list_places.Given as goal

abbrev pub invariant-loop-u : goal.invariant-loop-u
invariant-loop-u g l = record {
  within : l.u-index ≤ length l.order;
  counts : l.place ≡ l.u-index;
  one_each : length l.places.items ≡ g.G.Graph.size l.graph;
  at : (k w : ℕ) → k < l.u-index → slice_get l.order k ≡ Some w → slice_get l.places.items w ≡ Some k;
}

use Rattle.kc_dotconfig.proofs.Common.{◌≡◌, ◌<◌, ◌+◌, ℕ, IsTrue, Some, length, slice_get, slice_index, UserValue, user_fits, tree_of_settled, units_of, next_at}
use Rattle.kc_dotconfig.proofs.fragment.Fragment.fits.Given as goal

-- the user values checked so far fit the tree, and `next` is one more than the last unit checked
abbrev pub invariant-loop-unit : goal.invariant-loop-unit
invariant-loop-unit l = record {
  next : l.next ≡ next_at (units_of l.fn.self.assigns.items) l.unit-index;
  rises : (k : ℕ) → k + 1 < l.unit-index → slice_index (units_of l.fn.self.assigns.items) k < slice_index (units_of l.fn.self.assigns.items) (k + 1);
  each : (k u : ℕ) (x : UserValue) → k < l.unit-index → slice_get l.fn.self.assigns.items k ≡ Some (u, x)
      → (u < length (tree_of_settled l.fn.settled).units) × IsTrue (user_fits (tree_of_settled l.fn.settled) u x);
}

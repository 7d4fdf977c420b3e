use Rattle.kc_dependencies.proofs.Common.{◌≡◌, ℕ, ◌||◌, [], take, slice_index_or, list_any, has, is_of, AreUnits}
use Rattle.kc_dependencies.proofs.dependencies.push_units.Given as goal

abbrev pub invariant-loop-name : goal.invariant-loop-name
invariant-loop-name l = record {
  units : (d : ℕ)
      → has l.units.items d ≡ (has l.initial.units.items d || list_any (λ (i : ℕ). is_of l.tree.tree d (slice_index_or l.tree.exprs.names i []))
      (take l.name-index l.names));
  below : AreUnits l.tree.tree l.initial.units.items → AreUnits l.tree.tree l.units.items;
}

use Rattle.kc_dependencies.proofs.Common.{◌≡◌, ℕ, ◌||◌, take, has, depends_on_reverse, AreUnits}
use Rattle.kc_dependencies.proofs.dependencies.push_reverse_dependencies.Given as goal

abbrev pub invariant-loop-force : goal.invariant-loop-force
invariant-loop-force l = record {
  units : (d : ℕ) → has l.units.items d ≡ (has l.initial.units.items d || depends_on_reverse l.tree.tree d (take l.force-index l.all));
  below : AreUnits l.tree.tree l.initial.units.items → AreUnits l.tree.tree l.units.items;
}

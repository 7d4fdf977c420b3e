use Rattle.kc_dependencies.proofs.Common.{◌||◌, ◌==◌, ap, ◌∙◌, arith, common_steps, elements, unit_of, has}
use Rattle.kc_tree.specs.declared.symbol.ReverseDependency.{ReverseDependency}
use Rattle.kc_dependencies.proofs.Pushes.{any_pushed, has_pushed, units_pushed}
use Rattle.kc_dependencies.proofs.dependencies.push_reverse_dependencies.Goals as goal

pub loop-force-preserved : goal.loop-force-preserved
loop-force-preserved c =
    let old = c.loop-force.units.items in
    let new = c.push.new.self.items in
    record {
      units = λ d. any_pushed (λ (f : ReverseDependency). unit_of c.args.tree.now.tree f.by == d) c.args.all.now c.loop-force.force-index c.force-item.result _
          _ _ (omega arith) c.force-item.is (has_pushed old new c.unit_of.result d c.in_ok-push.ensures.items
          ∙ ap (λ v. has old d || (v == d)) c.unit_of.ensures.unit) (c.loop-force.invariant.units d);
      below = λ all. units_pushed c.args.tree.now.tree old new c.unit_of.result c.in_ok-push.ensures.items c.unit_of.ensures.within
          (c.loop-force.invariant.below all);
    }

pub returns-clause-units : goal.returns-clause-units
returns-clause-units c = grind (arith, elements)

pub returns-clause-below : goal.returns-clause-below
returns-clause-below c = grind (arith, elements)

pub unit_of-requires : goal.unit_of-requires
unit_of-requires c = grind (arith, common_steps)

use Rattle.kc_dependencies.proofs.Common.{ℕ, arith, common_steps, elements, slice_index_or, is_of}
use Rattle.std.specs.Prelude.{[]}
use Rattle.kc_dependencies.proofs.Pushes.{any_pushed}
use Rattle.kc_dependencies.proofs.dependencies.push_units.Goals as goal

pub loop-name-preserved : goal.loop-name-preserved
loop-name-preserved c = record {
  units = λ d. any_pushed (λ (i : ℕ). is_of c.args.tree.now.tree d (slice_index_or c.args.tree.now.exprs.names i [])) c.args.names.now c.loop-name.name-index
      c.name-item.result _ _ _ (omega arith) c.name-item.is (c.in_ok-push_named.ensures.units d) (c.loop-name.invariant.units d);
  below = λ all. c.in_ok-push_named.ensures.below (c.loop-name.invariant.below all);
}

pub returns-clause-below : goal.returns-clause-below
returns-clause-below c = grind (arith, elements)

pub returns-clause-units : goal.returns-clause-units
returns-clause-units c = grind (arith, common_steps)

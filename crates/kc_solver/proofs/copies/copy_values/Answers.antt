use Rattle.std.proofs.Common.{arith}
use Rattle.kc_solver.proofs.Lists.{copied_more, copied_all}
use Rattle.kc_solver.proofs.copies.copy_values.Goals as goal

pub loop-value-preserved : goal.loop-value-preserved
loop-value-preserved g c = record {
  within = omega arith;
  same = copied_more c.args.values.now c.loop-value.copy.items c.push.new.self.items c.loop-value.value-index c.value-item.result c.in_ok-copy_value.field-0
      c.loop-value-test.true c.loop-value.invariant.same c.value-item.is c.in_ok-copy_value.ensures c.in_ok-push.ensures.items;
}

pub returns : goal.returns
returns g c = copied_all c.args.values.now c.loop-value.copy.items c.loop-value.value-index c.loop-value-test.false c.loop-value.invariant.same

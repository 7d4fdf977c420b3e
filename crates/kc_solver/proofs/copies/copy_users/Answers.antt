use Rattle.std.proofs.Common.{arith}
use Rattle.kc_solver.proofs.Lists.{copied_more, copied_all}
use Rattle.kc_solver.proofs.copies.copy_users.Goals as goal

pub loop-user-preserved : goal.loop-user-preserved
loop-user-preserved g c = record {
  within = omega arith;
  same = copied_more c.args.users.now c.loop-user.copy.items c.push.new.self.items c.loop-user.user-index c.user-item.result c.in_ok-copy_optional_user.field-0
      c.loop-user-test.true c.loop-user.invariant.same c.user-item.is c.in_ok-copy_optional_user.ensures c.in_ok-push.ensures.items;
}

pub returns : goal.returns
returns g c = copied_all c.args.users.now c.loop-user.copy.items c.loop-user.user-index c.loop-user-test.false c.loop-user.invariant.same

use Rattle.kc_solver.proofs.Common.{arith, common_steps}
use Rattle.kc_solver.proofs.Lists.{each_push}
use Rattle.kc_solver.proofs.solution.blanks.Goals as goal

pub loop-u-preserved : goal.loop-u-preserved
loop-u-preserved g c = record {
  one_each = omega (arith, c.in_ok-push.ensures.len, c.push.new.self.ok.0, c.loop-u.values.ok.0, c.loop-u.invariant.one_each);
  fits = each_push (g.S.System.fits_value c.args.system.now) c.loop-u.values.items c.push.new.self.items c.loop-u.u c.in_ok-value.value
      c.in_ok-push.ensures.items c.loop-u.invariant.one_each c.in_ok-value.ensures.ok c.loop-u.invariant.fits;
}

pub loop-u-init : goal.loop-u-init
loop-u-init g c = grind (arith, common_steps)

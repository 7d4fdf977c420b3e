use Rattle.kc_solver.proofs.Common.{arith, common_steps}
use Rattle.kc_solver.proofs.sessions.Session.with_values.Goals as goal

pub make_plan-requires : goal.make_plan-requires
make_plan-requires g c = record { order = c.requires.order }

pub invariant_of-result : goal.invariant_of-result
invariant_of-result g c =
    let same = c.in_ok-plan.ensures.system in
    record {
      plan = c.in_ok-plan.ensures.plan;
      users = rw same c.requires.users;
      values = rw same c.requires.values;
      size = rw same (omega (arith, c.in_ok-pending.ensures.size));
      none = c.in_ok-pending.ensures.none;
      gives = rw same c.requires.gives;
    }

pub returns : goal.returns
returns g c = grind (arith, common_steps)

use Rattle.kc_solver.proofs.orders.Order.units.Goals as goal

pub returns : goal.returns
returns c = rw c.self.view_is at c.as_slice.ensures.value

use Rattle.kc_solver.proofs.AcyclicOrders.{order_of_acyclic}
use Rattle.kc_solver.proofs.acyclic_graphs.acyclic_graphs_have_orders.Goals as goal

pub returns : goal.returns
returns c = order_of_acyclic

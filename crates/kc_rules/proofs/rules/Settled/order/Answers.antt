use Rattle.std.proofs.Common.{length}
use Rattle.kc_rules_model.specs.Dependencies.{dependencies}
use Rattle.kc_rules.proofs.Orders.{order_had}
use Rattle.kc_rules.proofs.rules.Settled.order.Goals as goal

pub returns : goal.returns
returns c = let s = c.args.self.now in let t = s.rules.tree.tree in order_had (length t.units) (dependencies t) s.order s.ordered

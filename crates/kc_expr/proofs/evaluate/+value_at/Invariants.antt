use Rattle.kc_expr.proofs.Common.{◌≡◌, ◌<◌, node_expr, value, environment_of, stored_names, exprs_in}
use Rattle.kc_expr.specs.checker.Nodes.{joined_value}
use Rattle.kc_expr.proofs.evaluate.+value_at.Given as goal

abbrev pub decreases-value_at : goal.decreases-value_at
decreases-value_at g l = l.index

abbrev pub invariant-chain : goal.invariant-chain
invariant-chain g l =
    let names = environment_of (stored_names l.store) (g.L.Lookup.symbol_values l.lookup) in
    record {
      below : l.at < l.index;
      chain : joined_value l.connective l.joined (value names (node_expr (exprs_in l.store) l.at)) ≡ value names (node_expr (exprs_in l.store) l.index);
    }

abbrev pub decreases-chain : goal.decreases-chain
decreases-chain g l = l.at

use Rattle.kc_expr.proofs.StoreLemmas.{node_of}
use Rattle.kc_expr.proofs.evaluate.value_of.Goals as goal

pub returns-in-Alone : goal.returns-in-Alone
returns-in-Alone g c = record {
  value = rw (node_of c.args.store.now c.args.index _ _ c.requires.sound c.requires.there c.node.ensures.value c.in-Alone.is)
      c.leaf_value.ensures.value;
}

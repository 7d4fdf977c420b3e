use Rattle.kmin_explain.proofs.Common.{prefix_bytes, symbol_meant}
use Rattle.kmin_explain.proofs.NameLists.{one_more_meant}
use Rattle.kmin_explain.proofs.names.named_symbols.Goals as goal

pub loop-name-preserved : goal.loop-name-preserved
loop-name-preserved c = record {
  marks = c.in_ok-add_named.ensures.marks;
  many = c.in_ok-add_named.ensures.many;
  found = one_more_meant (symbol_meant c.args.tree.now.tree (prefix_bytes c.args.prefix.now)) c.loop-name.found.found.items _ c.deref-name-items.result.now c.loop-name.name-index _ _
      c.loop-name-test.true c.in_ok-add_named.ensures.found c.loop-name.invariant.found;
}

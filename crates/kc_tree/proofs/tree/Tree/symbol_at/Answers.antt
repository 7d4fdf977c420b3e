use Rattle.kc_tree.proofs.Common.{arith, elements, tree_from_rows}
use Rattle.kc_tree.proofs.SymbolNames.{reported_at, reported_past, reported_there}
use Rattle.kc_tree.proofs.tree.Tree.symbol_at.Goals as goal

pub returns-then-index-count-clause-there : goal.returns-then-index-count-clause-there
returns-then-index-count-clause-there c =
    let p = c.self.inside in
    rw (← c.self.view_is) (reported_there (tree_from_rows p) p.arena.names c.index-index.result c.index.result.now
    (reported_at (tree_from_rows p) p.arena.names p.symbol_of_name.items c.index-index.result c.index.result.now c.self.invariant.table (omega arith)
    c.index.ensures))

pub returns-else-index-count-clause-symbol : goal.returns-else-index-count-clause-symbol
returns-else-index-count-clause-symbol c =
    let p = c.self.inside in
    rw (← c.self.view_is, ← c.index-index.ensures) (reported_past (tree_from_rows p) p.arena.names p.symbol_of_name.items c.index-index.result
    c.self.invariant.table (omega arith))

pub returns-then-index-count-clause-symbol : goal.returns-then-index-count-clause-symbol
returns-then-index-count-clause-symbol c = grind (arith, elements)

use Rattle.std.proofs.Common.{◌∙◌, arith}
use Rattle.kc_symbol_lines.proofs.IndexLaws.{index_is, many_symbols}
use Rattle.kc_symbol_lines.proofs.index.LineIndex.new.Goals as goal

pub grouped-requires-clause-keys : goal.grouped-requires-clause-keys
grouped-requires-clause-keys c = λ i l.
    let r = c.requires.read in
    let n = many_symbols c.args.tree.now r.read r.tree_is in
    let b = (c.in_ok-found.ensures.ok r.read r.tree_is r.has).symbols i 0 l in
    omega (arith, n, b, c.symbol_count-count.ensures)

pub grouped-requires-2-clause-keys : goal.grouped-requires-2-clause-keys
grouped-requires-2-clause-keys c = λ i l.
    let r = c.requires.read in
    let n = many_symbols c.args.tree.now r.read r.tree_is in
    let b = (c.in_ok-found.ensures.ok r.read r.tree_is r.has).selected i 0 l in
    omega (arith, n, b, c.symbol_count-count.ensures)

pub grouped-requires-3-clause-keys : goal.grouped-requires-3-clause-keys
grouped-requires-3-clause-keys c = λ i l.
    let r = c.requires.read in
    let n = many_symbols c.args.tree.now r.read r.tree_is in
    let b = (c.in_ok-found.ensures.ok r.read r.tree_is r.has).implied i 0 l in
    omega (arith, n, b, c.symbol_count-count.ensures)

pub returns : goal.returns
returns c = record {
  ok = λ read tree_is has.
      index_is read _ c.in_ok-found.found c.symbol_count-count.result (c.symbol_count-count.ensures ∙ many_symbols c.args.tree.now read tree_is)
      (c.in_ok-blocks.ensures.ok c.args.tree.now.exprs read has) (c.in_ok-found.ensures.ok read tree_is has)
      c.in_ok-grouped.ensures.ok c.in_ok-grouped-2.ensures.ok c.in_ok-grouped-3.ensures.ok;
}

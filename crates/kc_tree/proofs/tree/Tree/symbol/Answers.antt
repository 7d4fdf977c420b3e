use Rattle.kc_tree.proofs.Common.{◌<◌, length, refl, arith, slice_get_read, DefaultFits, RangeFits, HasOperands, ReverseDependencyFits, items_at, symbol_from_row, SymbolRow}
use Rattle.std.proofs.lemmas.List.Elements.{All-get_or}
use Rattle.kc_expr.specs.between.Arena.{node_expr}
use Rattle.kc_tree.proofs.RowViews.{seen_get, all_at, mapped_own, all_own, symbols_length, symbol_there}
use Rattle.kc_tree.proofs.tree.Tree.symbol.Goals as goal

pub index-row-requires : goal.index-row-requires
index-row-requires c =
    let below : c.number-index.result < length c.self.inside.symbols.items =
    symbol_there c.self.inside _ c.self.view_is c.number-index.result (rw c.number-index.ensures c.requires.there) in
    omega (arith, below)

pub get-requires : goal.get-requires
get-requires c =
    let below : c.number-index.result < length c.self.inside.symbols.items =
    symbol_there c.self.inside _ c.self.view_is c.number-index.result (rw c.number-index.ensures c.requires.there) in
    record { there = omega (arith, below, c.self.invariant.places.prompts) }

pub get-requires-2 : goal.get-requires-2
get-requires-2 c =
    let below : c.number-index.result < length c.self.inside.symbols.items =
    symbol_there c.self.inside _ c.self.view_is c.number-index.result (rw c.number-index.ensures c.requires.there) in
    record { there = omega (arith, below, c.self.invariant.places.defaults) }

pub get-requires-3 : goal.get-requires-3
get-requires-3 c =
    let below : c.number-index.result < length c.self.inside.symbols.items =
    symbol_there c.self.inside _ c.self.view_is c.number-index.result (rw c.number-index.ensures c.requires.there) in
    record { there = omega (arith, below, c.self.invariant.places.ranges) }

pub get-requires-4 : goal.get-requires-4
get-requires-4 c =
    let below : c.number-index.result < length c.self.inside.symbols.items =
    symbol_there c.self.inside _ c.self.view_is c.number-index.result (rw c.number-index.ensures c.requires.there) in
    record { there = omega (arith, below, c.self.invariant.places.selectors) }

pub get-requires-5 : goal.get-requires-5
get-requires-5 c =
    let below : c.number-index.result < length c.self.inside.symbols.items =
    symbol_there c.self.inside _ c.self.view_is c.number-index.result (rw c.number-index.ensures c.requires.there) in
    record { there = omega (arith, below, c.self.invariant.places.impliers) }

pub get-requires-6 : goal.get-requires-6
get-requires-6 c =
    let below : c.number-index.result < length c.self.inside.symbols.items =
    symbol_there c.self.inside _ c.self.view_is c.number-index.result (rw c.number-index.ensures c.requires.there) in
    record { there = omega (arith, below, c.self.invariant.places.direct) }

pub returns-clause-symbol : goal.returns-clause-symbol
returns-clause-symbol c =
    let t = c.self.inside in
    let i = c.number-index.result in
    let below : i < length t.symbols.items = symbol_there t _ c.self.view_is i (rw c.number-index.ensures c.requires.there) in
    rw (
      ← c.self.view_is,
      ← c.number-index.ensures,
      c.get.ensures.value,
      c.get-2.ensures.value,
      c.get-3.ensures.value,
      c.get-4.ensures.value,
      c.get-5.ensures.value,
      c.own_dependencies.ensures,
      c.get-6.ensures.value,
      mapped_own (node_expr t.arena) c.index-row.result.now.choice (items_at t.attributes.direct.starts.items t.attributes.direct.items.items i),
    )
    (seen_get (symbol_from_row t) 0 t.symbols.items i i c.index-row.result.now (omega arith)
    (slice_get_read t.symbols.items _ i c.index-row.result.now refl below c.index-row.ensures))

pub returns-clause-fits : goal.returns-clause-fits
returns-clause-fits c =
    let t = c.self.inside in
    let i = c.number-index.result in
    let f = c.self.invariant.fits in
    let below : i < length t.symbols.items = symbol_there t _ c.self.view_is i (rw c.number-index.ensures c.requires.there) in
    let nodes = length t.arena.nodes in
    let count = length t.symbols.items in
    let a = t.attributes in
    rw (← c.self.view_is, symbols_length t) (record {
      name = rw c.index-row.ensures (All-get_or (λ (r : SymbolRow). r.name < length t.arena.names) t.symbols.items i c.index-row.result.now below f.names);
      prompts = rw c.get.ensures.value (all_at (λ n. n < nodes) a.prompts.starts.items a.prompts.items.items i f.prompts);
      defaults = rw c.get-2.ensures.value (all_at (DefaultFits nodes) a.defaults.starts.items a.defaults.items.items i f.defaults);
      ranges = rw c.get-3.ensures.value (all_at (RangeFits nodes) a.ranges.starts.items a.ranges.items.items i f.ranges);
      bounds = rw c.get-3.ensures.value (all_at (HasOperands t.arena) a.ranges.starts.items a.ranges.items.items i f.bounds);
      selectors = rw c.get-4.ensures.value (all_at (ReverseDependencyFits nodes count) a.selectors.starts.items a.selectors.items.items i f.selectors);
      impliers = rw c.get-5.ensures.value (all_at (ReverseDependencyFits nodes count) a.impliers.starts.items a.impliers.items.items i f.impliers);
      direct = rw (c.own_dependencies.ensures, c.get-6.ensures.value) (all_own (λ n. n < nodes) c.index-row.result.now.choice
          (items_at a.direct.starts.items a.direct.items.items i) (all_at (λ n. n < nodes) a.direct.starts.items a.direct.items.items i f.direct));
    })

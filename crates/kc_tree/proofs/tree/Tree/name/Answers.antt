use Rattle.kc_tree.proofs.Common.{◌<◌, length, refl, arith, ap, sym, ◌∙◌, Some, slice_get_read, symbol_from_row, SymbolRow}
use Rattle.std.specs.Prelude.{option_map}
use Rattle.kc_tree_model.specs.Trees as tree
use Rattle.kc_tree.proofs.RowViews.{seen_get, symbol_there}
use Rattle.std.proofs.lemmas.List.Elements.{All-get_or}
use Rattle.kc_tree.proofs.tree.Tree.name.Goals as goal

pub index-requires : goal.index-requires
index-requires c =
    let below : c.number.result < length c.self.inside.symbols.items =
    symbol_there c.self.inside _ c.self.view_is c.number.result (rw c.number.ensures c.requires.there) in
    omega (arith, below)

pub name-requires : goal.name-requires
name-requires c =
    let t = c.self.inside in
    let i = c.number.result in
    let below : i < length t.symbols.items = symbol_there t _ c.self.view_is i (rw c.number.ensures c.requires.there) in
    record {
      there = rw c.index.ensures (All-get_or (λ (r : SymbolRow). r.name < length t.arena.names) t.symbols.items i c.index.result.now below
          c.self.invariant.fits.names);
    }

pub returns : goal.returns
returns c = record {
  value = let t = c.self.inside in
      let i = c.number.result in
      let below : i < length t.symbols.items = symbol_there t _ c.self.view_is i (rw c.number.ensures c.requires.there) in
      rw (← c.self.view_is, ← c.number.ensures)
      (ap (option_map (λ (k : tree.Symbol). k.name)) (seen_get (symbol_from_row t) 0 t.symbols.items i i c.index.result.now (omega arith)
      (slice_get_read t.symbols.items _ i c.index.result.now refl below c.index.ensures))
      ∙ ap Some (sym c.name.ensures.value));
}

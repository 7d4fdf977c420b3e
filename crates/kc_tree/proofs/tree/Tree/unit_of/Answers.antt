use Rattle.kc_tree.proofs.Common.{◌≡◌, ◌<◌, ◌∙◌, length, arith, slice_index, get_or_default_zero}
use Rattle.kc_tree.proofs.RowViews.{symbol_there, units_length}
use Rattle.kc_tree.proofs.tree.Tree.unit_of.Goals as goal

pub index-requires : goal.index-requires
index-requires c =
    let below : c.number.result < length c.self.inside.symbols.items =
    symbol_there c.self.inside _ c.self.view_is c.number.result (rw c.number.ensures c.requires.there) in
    omega (arith, below, c.self.invariant.places.unit_of_symbol)

pub returns-clause-unit : goal.returns-clause-unit
returns-clause-unit c =
    let t = c.self.inside in
    let i = c.number.result in
    let below : i < length t.symbols.items = symbol_there t _ c.self.view_is i (rw c.number.ensures c.requires.there) in
    let e : c.index.result.now ≡ slice_index t.unit_numbers.symbols.items i = c.index.ensures
    ∙ get_or_default_zero t.unit_numbers.symbols.items i c.index.result.now (omega (arith, c.self.invariant.places.unit_of_symbol)) in
    rw (← c.self.view_is, ← c.number.ensures) (e ∙ (c.self.invariant.units i below).0)

pub returns-clause-within : goal.returns-clause-within
returns-clause-within c =
    let t = c.self.inside in
    let i = c.number.result in
    let below : i < length t.symbols.items = symbol_there t _ c.self.view_is i (rw c.number.ensures c.requires.there) in
    let e : c.index.result.now ≡ slice_index t.unit_numbers.symbols.items i = c.index.ensures
    ∙ get_or_default_zero t.unit_numbers.symbols.items i c.index.result.now (omega (arith, c.self.invariant.places.unit_of_symbol)) in
    rw (← c.self.view_is, units_length t, e) (c.self.invariant.units i below).1

-- The names that most proofs of this crate cite, passed on from one place. Declares nothing.
pub use Rattle.std.proofs.Common.{Bool, List, None, Option, Some, [], ap, arith, cond, drop, false, get_or, inl, inr, length, map, refl, subst, suc, sym, true, zero, ℕ, ◌++◌, ◌+◌, ◌-◌, ◌<◌, ◌==◌, ◌∙◌, ◌∷◌, ◌≡◌, ◌≢◌, ◌≤◌, ◌⊎◌}
pub use Rattle.std.proofs.Math.ListN.{set}
pub use Rattle.std.proofs.lemmas.Bool.{cases_lt, ltb-true}
pub use Rattle.std.proofs.lemmas.Grind.{common_steps, elements, get_or-set_at, get_or_default_zero}
pub use Rattle.std.proofs.lemmas.List.{get_or-map, get_or-set_other, length-map, length-set, take-map}
pub use Rattle.std.proofs.lemmas.Option.{get_or_from_slice_get, slice_get-get_or, slice_get_read, slice_get_within}
pub use Rattle.std.specs.List.{position_or_len}
pub use Rattle.std.specs.Prelude.{All, Contains, bytes_eq, slice_get, slice_index}
pub use Rattle.kc_expr.specs.Lookup.{index_of_name}
pub use Rattle.kc_tree.specs.TreeModel.{TreeModel}
pub use Rattle.kc_tree.specs.between.GatheredView.{choice_gathered, gathered_tree, symbol_gathered}
pub use Rattle.kc_tree.specs.between.GroupedItems.{items_at, items_of}
pub use Rattle.kc_tree.specs.between.StoredView.{choice_from_row, entry_from_row, from_rows, symbol_from_row, tree_from_rows}
pub use Rattle.kc_tree.specs.between.StoredFits.{IsSoundTree}
pub use Rattle.kc_tree.specs.between.Views.{DefaultFits, HasOperands, MemberDefaultFits, RangeFits, ReverseDependencyFits}
pub use Rattle.kc_tree.specs.checker.NameTable.{IsTable}
pub use Rattle.kc_tree.specs.checker.Places.{AreStarts}
pub use Rattle.kc_tree.specs.checker.UnitNumbers.{AreNumbered, own_or_choice}
pub use Rattle.kc_tree.specs.checker.Units.{HasUnits}
pub use Rattle.kc_tree.specs.declared.tree.Tree.TheInside.{Inside}
pub use Rattle.kc_tree.specs.declared.rows.SymbolRow.{SymbolRow}
pub use Rattle.kc_tree.specs.declared.tree_lists.TreeLists.{TreeLists}
pub use Rattle.kc_tree_model.specs.TreeLookup.{IsConsistent, index_of_unit, symbol_named, unit_of}
pub use Rattle.kc_tree_model.specs.Trees.{Tree}

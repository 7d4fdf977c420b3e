-- The units of a tree's symbols and choices.
use Rattle.std.specs.Prelude.{◌≡◌, ℕ, ◌<◌, List, length, slice_index}
use Rattle.kc_tree_model.specs.Trees.{Tree}
use Rattle.kc_tree_model.specs.declared.ids.Unit.TheVariants.{Choice as of_choice}
use Rattle.kc_tree_model.specs.TreeLookup.{unit_of, index_of_unit}

-- `of_symbol` and `of_choice_number` have the unit number of each symbol and of each choice of a tree
pub record HasUnits (tree : Tree) (of_symbol of_choice_number : List ℕ) : Type 0 where
  pub symbols_len : length of_symbol ≡ length tree.symbols
  pub choices_len : length of_choice_number ≡ length tree.choices
  pub symbol_units : (s : ℕ) → s < length tree.symbols → (slice_index of_symbol s ≡ unit_of tree s) × (slice_index of_symbol s < length tree.units)
  pub choice_units : (c : ℕ) → c < length tree.choices → (slice_index of_choice_number c ≡ index_of_unit tree (of_choice c)) × (slice_index of_choice_number c < length tree.units)

-- The numbers of units.
use Rattle.std.specs.Prelude.{◌≡◌, ℕ, ◌<◌, List, length, Option, Some, None, slice_get, slice_index}
use Rattle.kc_tree_model.specs.declared.ids.Unit.{Unit as TreeUnit}
use Rattle.kc_tree_model.specs.declared.ids.Unit.TheVariants.{Symbol as SymbolUnit, Choice as ChoiceUnit}

-- `of_symbol` and `of_choice` have the unit numbers of the symbols and choices that are among the first `n` units
pub record AreNumbered (symbols choices : ℕ) (units : List TreeUnit) (n : ℕ) (of_symbol of_choice : List ℕ) : Type 0 where
  pub symbols_len : length of_symbol ≡ symbols
  pub choices_len : length of_choice ≡ choices
  pub symbol_units : (u s : ℕ) → u < n → slice_get units u ≡ Some (SymbolUnit s) → slice_index of_symbol s ≡ u
  pub choice_units : (u c : ℕ) → u < n → slice_get units u ≡ Some (ChoiceUnit c) → slice_index of_choice c ≡ u

-- the number of a symbol's unit: its own (the first number), or for a choice member that of its choice, from the list
abbrev pub own_or_choice : ℕ → List ℕ → Option ℕ → ℕ
own_or_choice own choices None = own
own_or_choice own choices (Some c) = slice_index choices c

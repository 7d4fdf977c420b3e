-- Hindrances of units, by whether a unit is a symbol or a choice.
use Rattle.kc_reasons.proofs.Common.{◌≡◌, ℕ, List, Some, sym, ap, ◌∙◌, slice_get, Tree, Symbol, Choice, Profile, UnitValue, UserValue, Hindrance}
use Rattle.kc_tree_model.specs.declared.ids.Unit.TheVariants.{Symbol as of_symbol, Choice as of_choice}
use Rattle.kc_reasons_model.specs.Hindrances.{hinders, hinders_unit, hinders_symbol, hinders_choice}

pub at_symbol : (h : Hindrance) (profile : Profile) (tree : Tree) (u s k : ℕ) (symbol : Symbol) (user : UserValue) (values : List UnitValue)
    → slice_get tree.units u ≡ Some (of_symbol k) → slice_get tree.symbols k ≡ Some symbol
    → hinders_symbol h profile tree (Some symbol) user values ≡ hinders h profile tree u s user values
unfolding hinders
at_symbol h profile tree u s k symbol user values e f =
    sym (ap (λ o. hinders_unit h profile tree o s user values) e ∙ ap (λ o. hinders_symbol h profile tree o user values) f)

pub at_choice : (h : Hindrance) (profile : Profile) (tree : Tree) (u s c : ℕ) (choice : Choice) (user : UserValue) (values : List UnitValue)
    → slice_get tree.units u ≡ Some (of_choice c) → slice_get tree.choices c ≡ Some choice
    → hinders_choice h tree (Some choice) s user values ≡ hinders h profile tree u s user values
unfolding hinders
at_choice h profile tree u s c choice user values e f =
    sym (ap (λ o. hinders_unit h profile tree o s user values) e ∙ ap (λ o. hinders_choice h tree o s user values) f)

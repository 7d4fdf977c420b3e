-- The cases of units, by whether a unit is a symbol or a choice.
use Rattle.kc_reasons.proofs.Common.{◌≡◌, ℕ, List, Option, Some, sym, ap, ◌∙◌, slice_get, Tree, Symbol, Choice, Profile, UnitValue, UserValue}
use Rattle.kc_tree_model.specs.declared.ids.Unit.TheVariants.{Symbol as of_symbol, Choice as of_choice}
use Rattle.kc_reasons_model.specs.declared.cases.Case.TheVariants.{Choice as ChoiceGiven}
use Rattle.kc_reasons_model.specs.Cases.{case_of, case_of_unit, case_of_symbol, case_of_choice, symbol_case, choice_case}

pub case_symbol : (profile : Profile) (tree : Tree) (u s : ℕ) (symbol : Symbol) (user : Option UserValue) (values : List UnitValue)
    → slice_get tree.units u ≡ Some (of_symbol s) → slice_get tree.symbols s ≡ Some symbol
    → symbol_case symbol.kind profile tree symbol user values ≡ case_of profile tree u user values
unfolding case_of
case_symbol profile tree u s symbol user values e f =
    sym (ap (λ o. case_of_unit profile tree o user values) e ∙ ap (λ o. case_of_symbol profile tree o user values) f)

pub case_choice : (profile : Profile) (tree : Tree) (u c : ℕ) (choice : Choice) (user : Option UserValue) (values : List UnitValue)
    → slice_get tree.units u ≡ Some (of_choice c) → slice_get tree.choices c ≡ Some choice
    → ChoiceGiven (choice_case tree choice user values) ≡ case_of profile tree u user values
unfolding case_of
case_choice profile tree u c choice user values e f = sym (ap (λ o. case_of_unit profile tree o user values) e ∙ ap (λ o. case_of_choice tree o user values) f)

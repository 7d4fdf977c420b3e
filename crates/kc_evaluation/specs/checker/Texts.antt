-- The rules of strings, ints and hexes, with the user value as a text.
use Rattle.std.specs.Prelude.{ℕ, not, List, Option, None, ℤ, pos, unwrap_or, find, if◌then◌else◌}
use Rattle.std.specs.Option.{option_map, option_and_then}
use Rattle.kc_value.specs.declared.value.Kind.{Kind}
use Rattle.kc_value.specs.declared.value.Kind.TheVariants.{Int, Hex}
use Rattle.kc_value.specs.Number.{number_of_text}
use Rattle.kc_expr.specs.Expr.{Expr}
use Rattle.kc_tree_model.specs.Trees.{Tree, Symbol, Default, Range}
use Rattle.kc_rules_model.specs.declared.values.UnitValue.{UnitValue}
use Rattle.kc_value.specs.Tri.{is_n}
use Rattle.kc_rules_model.specs.SymbolValues.{condition}
use Rattle.kc_rules_model.specs.Rule.{is_visible, default_text, number_default, active_range, user_number}
use Rattle.kc_evaluation.specs.checker.RuleParts.{active_default_of}

-- a type is int or hex
abbrev pub IsNumber : Kind → Type 0
IsNumber Int = Unit {0}
IsNumber Hex = Unit {0}
IsNumber _ = ⊥

-- the expression of the first of some defaults whose condition isn't `n`, if there is one
abbrev pub active_value_of : Tree → List UnitValue → List Default → Option Expr
active_value_of tree values defaults = option_map (λ (d : Default). d.value) (active_default_of tree values defaults)

-- the first of some ranges whose condition isn't `n`, if there is one
abbrev pub active_range_of : Tree → List UnitValue → List Range → Option Range
active_range_of tree values ranges = find (λ (r : Range). not (is_n (condition tree values r.condition))) ranges

-- the text that a user assigns to a symbol, if there is one and the symbol is visible
abbrev pub visible_text_of : Tree → List UnitValue → Symbol → Option (List ℕ) → Option (List ℕ)
visible_text_of tree values symbol user = if is_visible tree values symbol then user else None

-- the value of a string: the user's text if there is one and the symbol is visible, otherwise the text of its default
abbrev pub string_rule_of : Tree → List UnitValue → Symbol → Option (List ℕ) → List ℕ
string_rule_of tree values symbol user = unwrap_or (visible_text_of tree values symbol user) (default_text tree values symbol)

-- what the user's number gives to an int or hex, if there is one and the symbol is visible
abbrev pub visible_number_of : Tree → List UnitValue → Symbol → Option (List ℕ) → Option (List ℕ)
visible_number_of tree values symbol user =
    let range = active_range tree values symbol in
    let number : List ℕ → ℤ = λ text. unwrap_or (number_of_text symbol.kind text) (pos 0) in
    let given : List ℕ → Option (List ℕ) = λ text. user_number tree values symbol.kind range (number text) text in
    option_and_then given (visible_text_of tree values symbol user)

-- the value of an int or hex: what the user's number gives if the symbol is visible, otherwise the default, moved into the range
abbrev pub number_rule_of : Tree → List UnitValue → Symbol → Option (List ℕ) → List ℕ
number_rule_of tree values symbol user = unwrap_or (visible_number_of tree values symbol user) (number_default tree values symbol)

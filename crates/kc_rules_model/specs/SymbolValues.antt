-- The values of symbols and expressions, given the values of the units ("Menu dependencies").
use Rattle.std.specs.Prelude.{ℕ, List, [], Option, Some, None, ◌==◌, slice_get, if◌then◌else◌}
use Rattle.std.specs.Option.{option_map, option_and_then}
use Rattle.kc_value.specs.declared.tri.Tri.{Tri}
use Rattle.kc_value.specs.declared.tri.Tri.TheVariants.{N, Y}
use Rattle.kc_value.specs.declared.value.Kind.{Kind}
use Rattle.kc_expr.specs.Expr.{Expr, Environment, SymbolValue, value}
use Rattle.kc_value.specs.Tri.{letter}
use Rattle.kc_tree_model.specs.Trees.{Tree, Symbol}
use Rattle.kc_tree_model.specs.declared.ids.Unit.TheVariants.{Choice as of_choice}
use Rattle.kc_tree_model.specs.TreeLookup.{unit_of, index_of_unit, symbol_named}
use Rattle.kc_rules_model.specs.declared.values.UnitValue.{UnitValue}
use Rattle.kc_rules_model.specs.declared.values.UnitValue.TheVariants.{Tri as TriValue, Text as TextValue, Member as MemberValue}
use Rattle.kc_value.specs.Kinds.{is_tri_kind}

-- the tristate that the value of a unit is; `n` if there is none or it isn't a tristate
abbrev pub tri_of : Option UnitValue → Tri
tri_of (Some (TriValue t)) = t
tri_of _ = N

-- the text that the value of a unit is; empty if there is none or it isn't a text
abbrev pub text_of : Option UnitValue → List ℕ
text_of (Some (TextValue text)) = text
text_of _ = []

-- the selected member that the value of a unit has; none if there is no value or it isn't that of a choice
abbrev pub member_of : Option UnitValue → Option ℕ
member_of (Some (MemberValue member)) = member
member_of _ = None

-- the tristate of member s of a choice, by the selected member: `y` if it is s, otherwise `n`
abbrev pub tri_if_selected : ℕ → Option ℕ → Tri
tri_if_selected s None = N
tri_if_selected s (Some chosen) = if chosen == s then Y else N

-- the value of a bool or tristate symbol; its text is the letter `n`, `m` or `y`
abbrev pub tri_symbol_value : Kind → Tri → SymbolValue
tri_symbol_value kind t = record { kind = kind; tri = t; text = letter t }

-- the value of symbol s: a member of a choice is `y` if it is the selected one, otherwise `n`; another symbol has the value of
-- its own unit
abbrev pub value_in_unit : Tree → List UnitValue → ℕ → Symbol → Option ℕ → SymbolValue
value_in_unit tree values s symbol (Some c) =
    tri_symbol_value symbol.kind (tri_if_selected s (member_of (slice_get values (index_of_unit tree (of_choice c)))))
value_in_unit tree values s symbol None =
    let held = slice_get values (unit_of tree s) in
    if is_tri_kind symbol.kind
    then tri_symbol_value symbol.kind (tri_of held)
    else record { kind = symbol.kind; tri = N; text = text_of held }

-- the value of the symbol of a number, by the values of all units; none if the tree has no such symbol
abbrev pub value_of_symbol : Tree → List UnitValue → ℕ → Option SymbolValue
value_of_symbol tree values s =
    option_map (λ (symbol : Symbol). value_in_unit tree values s symbol symbol.choice) (slice_get tree.symbols s)

-- the value of the symbol with a name, by the values of all units; none if no symbol has the name
abbrev pub environment : Tree → List UnitValue → Environment
environment tree values name = option_and_then (λ s. value_of_symbol tree values s) (symbol_named tree name)

-- the value of an expression, by the values of all units
abbrev pub condition : Tree → List UnitValue → Expr → Tri
condition tree values e = value (environment tree values) e

-- The minimal file of a valuation. No user value occurs.
use Rattle.std.specs.Prelude.{ℕ, Bool, true, false, not, ◌&&◌, List, Option, Some, None, slice_get, filter}
use Rattle.std.specs.List.{flat_map}
use Rattle.kc_expr.specs.Expr.{SymbolValue}
use Rattle.kc_tree_model.specs.Trees.{Tree, Symbol}
use Rattle.kc_tree_model.specs.TreeLookup.{unit_of}
use Rattle.kc_rules_model.specs.declared.profile.Profile.{Profile}
use Rattle.kc_rules_model.specs.declared.values.UnitValue.{UnitValue}
use Rattle.kc_value.specs.Tri.{is_n}
use Rattle.kc_rules_model.specs.SymbolValues.{value_of_symbol}
use Rattle.kc_rules_model.specs.Equality.{value_is}
use Rattle.kc_rules_model.specs.Rule.{rule}
use Rattle.kc_rules_model.specs.Reports.{symbol_numbers}
use Rattle.kc_dotconfig_model.specs.Formats.{FileFormat}
use Rattle.kc_minimal_model.specs.SymbolLine.{ended_line}

-- whether a unit's value isn't what its rule gives without a user value, all other values as they are
abbrev pub is_kept : Profile → Tree → List UnitValue → ℕ → Bool
is_kept profile tree values u = not (value_is (slice_get values u) (rule profile tree u None values))

-- whether a symbol's line may assign to its unit, by its choice (None outside choices) and its value: outside choices always, in
-- a choice only if the symbol is the selected member
abbrev pub is_line_of_its_unit : Option ℕ → SymbolValue → Bool
is_line_of_its_unit None seen = true
is_line_of_its_unit (Some c) seen = not (is_n seen.tri)

-- whether there is a symbol with a value, and it is outside choices or the selected member of its choice
abbrev pub may_have_line : Option Symbol → Option SymbolValue → Bool
may_have_line (Some symbol) (Some seen) = is_line_of_its_unit symbol.choice seen
may_have_line _ _ = false

-- whether a symbol has a line in the minimal file: its unit is kept, and of a choice's members the selected one alone has a line
abbrev pub has_line : Profile → Tree → List UnitValue → ℕ → Bool
has_line profile tree values s = is_kept profile tree values (unit_of tree s)
    && may_have_line (slice_get tree.symbols s) (value_of_symbol tree values s)

-- the numbers of the symbols that have a line in the minimal file, in order of first definition
abbrev pub minimal_symbols : Profile → Tree → List UnitValue → List ℕ
minimal_symbols profile tree values = filter (has_line profile tree values) (symbol_numbers tree)

-- the minimal file of a valuation (`make savedefconfig`; Kconfiglib's `write_min_config`)
abbrev pub minimal_file : FileFormat → Profile → Tree → List UnitValue → List ℕ
minimal_file format profile tree values =
    flat_map (ended_line format tree values) (minimal_symbols profile tree values)

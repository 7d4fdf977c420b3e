-- The rules of bools and tristates, with the user value as a tristate and a list of defaults.
use Rattle.std.specs.Prelude.{not, List, Option, find, if◌then◌else◌}
use Rattle.kc_value.specs.declared.tri.Tri.{Tri}
use Rattle.kc_value.specs.Tri.{tri_or, is_n, y_for_m}
use Rattle.kc_tree_model.specs.Trees.{Tree, Symbol, Default}
use Rattle.kc_rules_model.specs.declared.profile.Profile.{Profile}
use Rattle.kc_rules_model.specs.declared.values.UnitValue.{UnitValue}
use Rattle.kc_rules_model.specs.Rule.{base, promoted, selected, leaves_no_m}
use Rattle.kc_rules_model.specs.SymbolValues.{condition}

-- the first of some defaults whose condition isn't `n`, if there is one
abbrev pub active_default_of : Tree → List UnitValue → List Default → Option Default
active_default_of tree values defaults = find (λ (d : Default). not (is_n (condition tree values d.condition))) defaults

-- the value of a bool or tristate outside choices, from the user's tristate, if there is one, and the values of all units
abbrev pub tri_rule_of : Profile → Tree → List UnitValue → Symbol → Option Tri → Tri
tri_rule_of profile tree values symbol user =
    let t = promoted tree values symbol.kind (tri_or (base profile tree values symbol user) (selected tree values symbol)) in
    if leaves_no_m profile tree values symbol then y_for_m t else t

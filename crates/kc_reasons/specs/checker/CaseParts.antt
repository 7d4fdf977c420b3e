-- Cases by what the code holds: the mark of a default, and a user value as a tristate.
use Rattle.std.specs.Prelude.{Bool, not, ◌&&◌, List, Option, Some, None, is_some, if◌then◌else◌}
use Rattle.kc_value.specs.declared.tri.Tri.{Tri}
use Rattle.kc_value.specs.Number.{number_of_text}
use Rattle.kc_tokens.specs.Languages.{is_linux_6_12}
use Rattle.kc_tree_model.specs.Trees.{Tree, Symbol, Default}
use Rattle.kc_rules_model.specs.declared.values.UnitValue.{UnitValue}
use Rattle.kc_rules_model.specs.Rule.{active_default, active_range, default_text}
use Rattle.kc_rules_model.specs.declared.profile.Profile.{Profile}
use Rattle.kc_rules_model.specs.declared.profile.Profile.TheVariants.{Present, Classic}
use Rattle.kc_value.specs.Tri.{is_n}
use Rattle.kc_reasons_model.specs.declared.cases.TriCase.{TriCase}
use Rattle.kc_reasons_model.specs.declared.cases.TriCase.TheVariants.{Imply, Dependency}
use Rattle.kc_reasons_model.specs.declared.cases.TextCase.{TextCase}
use Rattle.kc_reasons_model.specs.declared.cases.TextCase.TheVariants.{LowBound, HighBound}
use Rattle.kc_reasons_model.specs.Conjuncts.{below}
use Rattle.kc_reasons_model.specs.Cases.{limits_imply, bound_case, default_number, number_default_case}

-- whether a default, if there is one, is an `option env`
abbrev pub mark_of : Option Default → Option Bool
mark_of None = None
mark_of (Some d) = Some d.from_environment

-- the case without a user value that counts, where another one is given for when nothing is implied that counts
abbrev pub unasked_of : Profile → (other : TriCase) → (default implied direct : Tri) → TriCase
unasked_of Present other d i direct = if limits_imply Present d i direct then Dependency else (if below d i then Imply else other)
unasked_of Classic other d i direct = if limits_imply Classic d i direct then Dependency else (if below d i && not (is_n direct) then Imply else other)

-- the case of the default of an int or hex, up to its range
abbrev pub default_number_case : Tree → Symbol → List UnitValue → TextCase
default_number_case tree symbol values =
    bound_case tree values symbol.kind (active_range tree values symbol) (default_number tree symbol values) LowBound HighBound
    (number_default_case (is_linux_6_12 tree.language) (is_some (number_of_text symbol.kind (default_text tree values symbol))) (active_default tree values symbol))

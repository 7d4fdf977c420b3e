-- The reasons of a symbol without places. An attribute goes by its number among those of its kind, from 0 in the tree's order, by
-- which its line is found.
use Rattle.std.specs.Prelude.{ℕ, Bool, true, false, not, ◌||◌, ◌==◌, List, [], ◌∷◌, map, Option, Some, None, option_map, unwrap_or, slice_get, if◌then◌else◌}
use Rattle.kc_value.specs.declared.tri.Tri.{Tri}
use Rattle.kc_value.specs.declared.tri.Tri.TheVariants.{M}
use Rattle.kc_expr.specs.Expr.{Expr, Environment}
use Rattle.kc_tree_model.specs.Trees.{Tree, Symbol, Default, Range, ReverseDependency}
use Rattle.kc_tree_model.specs.TreeLookup.{unit_of}
use Rattle.kc_rules_model.specs.declared.profile.Profile.{Profile}
use Rattle.kc_rules_model.specs.declared.values.UnitValue.{UnitValue}
use Rattle.kc_rules_model.specs.declared.values.UserValue.{UserValue}
use Rattle.kc_value.specs.Tri.{is_n}
use Rattle.kc_rules_model.specs.SymbolValues.{environment, condition, member_of}
use Rattle.kc_rules_model.specs.Rule.{assigned_tri, selected, is_from_environment}
use Rattle.kc_rules_model.specs.Reports.{is_unmet_symbol}
use Rattle.kc_reasons_model.specs.declared.cases.Case.{Case}
use Rattle.kc_reasons_model.specs.declared.cases.Hindrance.{Hindrance}
use Rattle.kc_reasons_model.specs.Conjuncts.{Part, lacking}
use Rattle.kc_reasons_model.specs.DecisiveLimits.{decisive_numbers}
use Rattle.kc_reasons_model.specs.Cases.{case_of}
use Rattle.kc_reasons_model.specs.Hindrances.{hindrance_to, wanted_for}
use Rattle.kc_reasons_model.specs.Reasons.{unless_one_lacks_nothing, is_by_select, is_by_imply}

-- what gives a symbol's value; the number of the selected member of its choice, if that is another; what hinders that it has what
-- its user value asks; for each prompt what it lacks (nothing where one lacks nothing); for each definition what its dependency
-- lacks of what is selected; the numbers of the selects and implies that decide
pub record PlainReasons : Type 0 where
  pub case : Case
  pub chosen : Option ℕ
  pub hindrance : Option Hindrance
  pub needs : List (List Part)
  pub unmet : List (List Part)
  pub selected_by : List ℕ
  pub implied_by : List ℕ

-- the selected member of a symbol's choice, if it is another than symbol s
abbrev pub other_than : ℕ → Option ℕ → Option ℕ
other_than s None = None
other_than s (Some m) = if m == s then None else Some m

abbrev pub chosen_in : Option ℕ → ℕ → Option UnitValue → Option ℕ
chosen_in None s value = None
chosen_in (Some c) s value = other_than s (member_of value)

-- what is wanted of the prompts of a symbol: what its user value asks for, or that it is visible at all
abbrev pub wanted_by : Tree → Symbol → Option UserValue → List UnitValue → Tri
wanted_by tree symbol user values = wanted_for tree symbol (unwrap_or (assigned_tri user) M) values

-- what each prompt that counts lacks of what is wanted; none where one lacks nothing
abbrev pub prompts_lack : Environment → Tri → Symbol → List (List Part)
prompts_lack names wanted symbol =
    if is_from_environment symbol then [] else unless_one_lacks_nothing (map (lacking names wanted) symbol.prompts)

-- what the dependency of each definition lacks of what is selected, if that is more
abbrev pub dependencies_lack : Tree → List UnitValue → Symbol → List (List Part)
dependencies_lack tree values symbol = if is_unmet_symbol tree values symbol
    then map (lacking (environment tree values) (selected tree values symbol)) symbol.direct
    else []

-- the reasons of symbol s, its unit having this user value, or none
abbrev pub plain_reasons : Profile → Tree → ℕ → Symbol → Option UserValue → List UnitValue → PlainReasons
plain_reasons profile tree s symbol user values =
    let case = case_of profile tree (unit_of tree s) user values in
    let hindrance = hindrance_to profile tree (unit_of tree s) s user values in
    record {
      case = case;
      chosen = chosen_in symbol.choice s (slice_get values (unit_of tree s));
      hindrance = hindrance;
      needs = prompts_lack (environment tree values) (wanted_by tree symbol user values) symbol;
      unmet = dependencies_lack tree values symbol;
      selected_by = if is_by_select case hindrance || is_unmet_symbol tree values symbol then decisive_numbers tree values symbol.selectors else [];
      implied_by = if is_by_imply case then decisive_numbers tree values symbol.impliers else [];
    }

-- and of the symbol with number s, if the tree has it
abbrev pub plain_reasons_at : Profile → Tree → ℕ → Option UserValue → List UnitValue → Option PlainReasons
plain_reasons_at profile tree s user values = option_map (λ symbol. plain_reasons profile tree s symbol user values) (slice_get tree.symbols s)

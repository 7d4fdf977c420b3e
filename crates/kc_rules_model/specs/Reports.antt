-- The symbols of a full file, unmet dependencies and lifted tristates, by the values of the units.
use Rattle.std.specs.Prelude.{◌≡◌, ◌≢◌, ℕ, Bool, true, false, not, ◌&&◌, ◌||◌, List, Option, Some, None, is_some, is_none, length, nat_lt, slice_get, filter, unwrap_or, if◌then◌else◌}
use Rattle.std.specs.List.{range_with_len}
use Rattle.std.specs.Option.{option_map}
use Rattle.kc_value.specs.declared.tri.Tri.{Tri}
use Rattle.kc_value.specs.Tri.{rank, y_for_m, is_n}
use Rattle.kc_tokens.specs.declared.language.Language.{Language}
use Rattle.kc_tokens.specs.declared.language.Language.TheVariants.{Strict, Linux}
use Rattle.kc_tree_model.specs.Trees.{Tree, Symbol, Choice}
use Rattle.kc_tree_model.specs.declared.ids.Unit.TheVariants.{Symbol as of_symbol, Choice as of_choice}
use Rattle.kc_rules_model.specs.declared.profile.Profile.{Profile}
use Rattle.kc_rules_model.specs.declared.values.UnitValue.{UnitValue}
use Rattle.kc_value.specs.Kinds.{is_bool, is_tri_kind, is_tristate}
use Rattle.kc_tokens.specs.Languages.{is_linux_6_12}
use Rattle.kc_tree_model.specs.TreeLookup.{index_of_unit}
use Rattle.kc_rules_model.specs.SymbolValues.{member_of}
use Rattle.kc_rules_model.specs.Rule.{rule, as_user, is_from_environment, is_visible, selected, implied, direct_dependency, active_default, default_tri}

-- whether a tree is in a language of Linux
abbrev pub is_linux : Language → Bool
is_linux Strict = false
is_linux (Linux version) = true

-- the numbers of all symbols of a tree, from 0, in order of first definition
abbrev pub symbol_numbers : Tree → List ℕ
symbol_numbers tree = range_with_len 0 (length tree.symbols)

-- whether a symbol has a default that counts for a full file: of a bool or tristate one whose value isn't `n`, of another type
-- any whose condition isn't `n`
abbrev pub has_default : Tree → List UnitValue → Symbol → Bool
has_default tree values symbol =
    if is_tri_kind symbol.kind
    then not (is_n (default_tri tree values (active_default tree values symbol)))
    else is_some (active_default tree values symbol)

-- whether the tree has a choice of this number and it is optional
abbrev pub is_optional_choice : Tree → ℕ → Bool
is_optional_choice tree c = unwrap_or (option_map (λ (choice : Choice). choice.optional) (slice_get tree.choices c)) false

-- whether a choice number is given and is that of an optional choice without a selected member
abbrev pub is_unselected : Tree → List UnitValue → Option ℕ → Bool
is_unselected tree values None = false
is_unselected tree values (Some c) = is_optional_choice tree c && is_none (member_of (slice_get values (index_of_unit tree (of_choice c))))

-- whether a full file (Kconfiglib's `write_config`) has a symbol: it is visible, and no member of an optional choice without a
-- selected member; or it is outside choices, without an `option env`, and has a default, is selected, or is implied while its
-- direct dependency isn't `n` (under the rules of Linux 6.12 also while it is)
abbrev pub is_written_symbol : Tree → List UnitValue → Symbol → Bool
is_written_symbol tree values symbol =
    (is_visible tree values symbol && not (is_unselected tree values symbol.choice))
    || (is_none symbol.choice && not (is_from_environment symbol)
    && (has_default tree values symbol
    || not (is_n (selected tree values symbol))
    || (not (is_n (implied tree values symbol)) && (is_linux_6_12 tree.language || not (is_n (direct_dependency tree values symbol))))))

-- whether the tree has a symbol of this number and a full file has it
abbrev pub is_written : Tree → List UnitValue → ℕ → Bool
is_written tree values s = unwrap_or (option_map (is_written_symbol tree values) (slice_get tree.symbols s)) false

-- the direct dependency of a symbol up to which it may be selected: in the languages of Linux `m` counts as `y` for a bool
abbrev pub allowed : Tree → List UnitValue → Symbol → Tri
allowed tree values symbol = if is_linux tree.language && is_bool symbol.kind
    then y_for_m (direct_dependency tree values symbol)
    else direct_dependency tree values symbol

-- whether a symbol has an unmet dependency: it is outside choices and selected above its direct dependency ("Menu attributes",
-- reverse dependencies)
abbrev pub is_unmet_symbol : Tree → List UnitValue → Symbol → Bool
is_unmet_symbol tree values symbol = is_none symbol.choice
    && nat_lt (rank (allowed tree values symbol)) (rank (selected tree values symbol))

-- whether the tree has a symbol of this number and it has an unmet dependency
abbrev pub is_unmet : Tree → List UnitValue → ℕ → Bool
is_unmet tree values s = unwrap_or (option_map (is_unmet_symbol tree values) (slice_get tree.symbols s)) false

-- the numbers of the symbols with an unmet dependency (selected above the direct dependency), in order of first definition
abbrev pub unmet : Tree → List UnitValue → List ℕ
unmet tree values = filter (is_unmet tree values) (symbol_numbers tree)

-- unit u is a visible tristate that would get another value if its value were its user value
pub record IsLifted (profile : Profile) (tree : Tree) (values : List UnitValue) (u : ℕ) : Type 0 where
  pub s : ℕ
  pub symbol : Symbol
  pub value : UnitValue
  pub of_unit : slice_get tree.units u ≡ Some (of_symbol s)
  pub is_symbol : slice_get tree.symbols s ≡ Some symbol
  pub tristate : is_tristate symbol.kind ≡ true
  pub visible : is_visible tree values symbol ≡ true
  pub has : slice_get values u ≡ Some value
  pub differs : rule profile tree u (as_user tree.language value) values ≢ value

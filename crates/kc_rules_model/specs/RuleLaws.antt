-- The laws of the rules, for each tree and in both profiles.
use Rattle.std.specs.Prelude.{◌≡◌, ◌≢◌, ℕ, Bool, true, false, ◌&&◌, ◌<◌, List, Option, Some, None, length, slice_get, unwrap_or, IsTrue, IfSome}
use Rattle.std.specs.Option.{option_map}
use Rattle.kc_value.specs.Kinds.{is_number}
use Rattle.kc_tokens.specs.Languages.{is_linux_6_12}
use Rattle.kc_tree_model.specs.Trees.{Tree, Symbol}
use Rattle.kc_tree_model.specs.declared.ids.Unit.{Unit as TreeUnit}
use Rattle.kc_tree_model.specs.declared.ids.Unit.TheVariants.{Symbol as of_symbol, Choice as of_choice}
use Rattle.kc_tree_model.specs.TreeLookup.{IsConsistent}
use Rattle.kc_solver.specs.Dependencies.{IsGraph}
use Rattle.kc_solver.specs.Solutions.{Solves, KeepsFrame, Restores, FitsUsers, FitsValues}
use Rattle.kc_rules_model.specs.declared.profile.Profile.{Profile}
use Rattle.kc_rules_model.specs.declared.values.UnitValue.{UnitValue}
use Rattle.kc_rules_model.specs.declared.values.UnitValue.TheVariants.{Tri as TriValue, Text as TextValue, Member as MemberValue}
use Rattle.kc_rules_model.specs.declared.values.UserValue.{UserValue}
use Rattle.kc_rules_model.specs.Rule.{rule, as_user}
use Rattle.kc_rules_model.specs.Dependencies.{dependencies}
use Rattle.kc_rules_model.specs.Shapes.{user_fits, value_fits}
use Rattle.kc_rules_model.specs.SettledTrees.{IsSettledTree}

-- law: in every tree the dependencies of each unit ascend without repeats, and are numbers of units
abbrev pub DependenciesAreGraph : Type 0
DependenciesAreGraph = (tree : Tree) → IsGraph (length tree.units) (dependencies tree)

-- law: values that agree on the dependencies of a unit give the unit the same value
abbrev pub RulesKeepFrame : Type 0
RulesKeepFrame = (profile : Profile) (tree : Tree)
    → KeepsFrame (length tree.units) (dependencies tree) (rule profile tree) (λ u x. IsTrue (user_fits tree u x))

-- law: a value that a unit gets only with a user value is given again when the value itself is the user value
abbrev pub RulesRestore : Type 0
RulesRestore = (profile : Profile) (tree : Tree)
    → Restores (length tree.units) (rule profile tree) (as_user tree.language) (λ u x. IsTrue (user_fits tree u x))

-- whether the value of a unit is a tristate
abbrev pub is_tri_value : UnitValue → Bool
is_tri_value (TriValue t) = true
is_tri_value _ = false

-- whether a unit may have another value than its user value where it has one because of that: under the rules of Linux 6.12 a
-- choice, which may get a member because others are assigned `n`, and an int or hex, which may get a bound of its range
abbrev pub moves_user_values : Tree → Option TreeUnit → Bool
moves_user_values tree None = false
moves_user_values tree (Some (of_symbol s)) = is_linux_6_12 tree.language
    && unwrap_or (option_map (λ (symbol : Symbol). is_number symbol.kind) (slice_get tree.symbols s)) false
moves_user_values tree (Some (of_choice c)) = is_linux_6_12 tree.language

-- law: the user value of a unit is its value, if that is a text or a member, the unit wouldn't have it without its user value,
-- and user values of the unit aren't moved
abbrev pub TextsAreAssigned : Type 0
TextsAreAssigned = (profile : Profile) (tree : Tree) (u : ℕ) (x : Option UserValue) (values : List UnitValue)
    → rule profile tree u x values ≢ rule profile tree u None values
    → is_tri_value (rule profile tree u x values) ≡ false → moves_user_values tree (slice_get tree.units u) ≡ false
    → x ≡ as_user tree.language (rule profile tree u x values)

-- law: the value that a unit's rule gives fits the unit, in a consistent tree, if all values and the user value fit their units
abbrev pub RulesFit : Type 0
RulesFit = (profile : Profile) (tree : Tree) (u : ℕ) (x : Option UserValue) (values : List UnitValue)
    → IsConsistent tree → u < length tree.units → IfSome x (λ y. IsTrue (user_fits tree u y))
    → FitsValues (length tree.units) (λ w v. IsTrue (value_fits tree w v)) values
    → IsTrue (value_fits tree u (rule profile tree u x values))

-- law: the values that solve an assignment of user values fit their units if the user values do, in a consistent tree without a
-- cycle of dependencies
abbrev pub SolutionsFit : Type 0
SolutionsFit = (profile : Profile) (tree : Tree) (users : List (Option UserValue)) (values : List UnitValue)
    → IsSettledTree tree → FitsUsers (length tree.units) (λ u x. IsTrue (user_fits tree u x)) users
    → Solves (length tree.units) (rule profile tree) users values
    → FitsValues (length tree.units) (λ u v. IsTrue (value_fits tree u v)) values

-- The dependencies as they are stored, and the names that are visited on the way to them.
use Rattle.std.specs.Prelude.{◌≡◌, ℕ, ◌+◌, ◌-◌, ◌<◌, ◌≤◌, Bool, false, ◌&&◌, ◌||◌, ◌==◌, List, [], length, take, drop, All, Option, Some, None, slice_index, if◌then◌else◌}
use Rattle.std.specs.List.{list_any}
use Rattle.std.specs.Option.{option_map}
use Rattle.kc_value.specs.declared.value.Kind.{Kind}
use Rattle.kc_tokens.specs.Languages.{is_linux_6_12}
use Rattle.kc_expr.specs.between.Arena.{Exprs, node_expr}
use Rattle.kc_expr.specs.between.Visits.{mentions, HasFound}
use Rattle.kc_dependencies.specs.declared.dependencies.Needs.{Needs}
use Rattle.kc_tree.specs.declared.symbol.Default.{Default as KeptDefault}
use Rattle.kc_tree.specs.declared.symbol.Range.{Range as KeptRange}
use Rattle.kc_tree.specs.declared.symbol.ReverseDependency.{ReverseDependency as KeptReverseDependency}
use Rattle.kc_tree.specs.declared.symbol.Symbol.{Symbol as KeptSymbol}
use Rattle.kc_tree.specs.declared.symbol.Choice.{Choice as KeptChoice}
use Rattle.kc_tree.specs.declared.symbol.MemberDefault.{MemberDefault as KeptMemberDefault}
use Rattle.kc_tree_model.specs.Trees.{Tree}
use Rattle.kc_tree_model.specs.TreeLookup.{unit_of, symbol_named}
use Rattle.kc_rules_model.specs.Dependencies.{dependencies, names_in_member_prompts}
use Rattle.kc_value.specs.Kinds.{is_tristate}

-- `links` has the dependencies of the units below `unit`, one unit after another; `starts` has the index at which those of each
-- unit begin, and then the length of `links`
pub record LinksBelow (tree : Tree) (unit : ℕ) (starts links : List ℕ) : Type 0 where
  pub places : length starts ≡ unit + 1
  pub last : slice_index starts unit ≡ length links
  pub rises : (u : ℕ) → u < unit → slice_index starts u ≤ slice_index starts (u + 1)
  pub within : (u : ℕ) → u < unit → slice_index starts (u + 1) ≤ length links
  pub rows : (u : ℕ) → u < unit → take (slice_index starts (u + 1) - slice_index starts u) (drop (slice_index starts u) links) ≡ dependencies tree u

-- the second list has the dependencies of all units of a tree, one unit after another; the first has the index at which those of
-- each unit begin, and then the length of the second
abbrev pub AreLinks : Tree → List ℕ → List ℕ → Type 0
AreLinks tree starts links = LinksBelow tree (length tree.units) starts links

-- nothing was gathered yet for the dependencies of a unit
pub record HasBegun (exprs : Exprs) (needs : Needs) : Type 0 where
  pub found : HasFound exprs needs.found.visited needs.found.names.items
  pub no_names : needs.found.names.items ≡ []
  pub no_units : needs.units.items ≡ []

-- all numbers of a list are numbers of units of the tree
abbrev pub AreUnits : Tree → List ℕ → Type 0
AreUnits tree units = All (λ u. u < length tree.units) units

-- whether a list of numbers has this number
abbrev pub has : List ℕ → ℕ → Bool
has units d = list_any (λ e. e == d) units

-- whether an optional number is there and equal to this number
abbrev pub is_at : ℕ → Option ℕ → Bool
is_at d None = false
is_at d (Some u) = u == d

-- whether a name is that of a symbol that belongs to the unit with this number
abbrev pub is_of : Tree → ℕ → List ℕ → Bool
is_of tree d name = is_at d (option_map (unit_of tree) (symbol_named tree name))

-- whether some name in the expressions with these numbers passes a test of names
abbrev pub in_exprs : Exprs → (List ℕ → Bool) → List ℕ → Bool
in_exprs exprs p ids = list_any (λ i. mentions p (node_expr exprs i)) ids

-- whether some name in the value or condition of this default of a symbol passes a test of names
abbrev pub in_default : Exprs → (List ℕ → Bool) → KeptDefault → Bool
in_default exprs p d = mentions p (node_expr exprs d.value) || mentions p (node_expr exprs d.condition)

-- whether some name in these defaults of a symbol passes a test of names
abbrev pub in_defaults : Exprs → (List ℕ → Bool) → List KeptDefault → Bool
in_defaults exprs p ds = list_any (in_default exprs p) ds

-- whether some name in the bounds or condition of this range passes a test of names
abbrev pub in_range : Exprs → (List ℕ → Bool) → KeptRange → Bool
in_range exprs p r = mentions p (node_expr exprs r.low) || mentions p (node_expr exprs r.high) || mentions p (node_expr exprs r.condition)

-- whether some name in these ranges passes a test of names
abbrev pub in_ranges : Exprs → (List ℕ → Bool) → List KeptRange → Bool
in_ranges exprs p rs = list_any (in_range exprs p) rs

-- whether some name in the condition of this select or imply passes a test of names
abbrev pub in_reverse_dependency : Exprs → (List ℕ → Bool) → KeptReverseDependency → Bool
in_reverse_dependency exprs p f = mentions p (node_expr exprs f.condition)

-- whether some name in the conditions of these selects or implies passes a test of names
abbrev pub in_reverse_dependencies : Exprs → (List ℕ → Bool) → List KeptReverseDependency → Bool
in_reverse_dependencies exprs p fs = list_any (in_reverse_dependency exprs p) fs

-- whether some name in a symbol's attributes, or in the conditions by which others select or imply it, passes a test of names
abbrev pub in_symbol : Exprs → (List ℕ → Bool) → KeptSymbol → Bool
in_symbol exprs p k = in_exprs exprs p k.prompts.now || in_defaults exprs p k.defaults.now || in_ranges exprs p k.ranges.now || in_exprs exprs p k.direct.now || in_reverse_dependencies exprs p k.selectors.now || in_reverse_dependencies exprs p k.impliers.now

-- whether some name in the conditions of the prompts of this member of a choice passes a test of names
abbrev pub in_member : Tree → (List ℕ → Bool) → ℕ → Bool
in_member tree p s = list_any p (names_in_member_prompts tree s)

-- whether some name in the conditions of the prompts of these members of a choice passes a test of names
abbrev pub in_members : Tree → (List ℕ → Bool) → List ℕ → Bool
in_members tree p ms = list_any (in_member tree p) ms

-- whether some name in the condition of this default of a choice, or of its member's prompts, passes a test of names
abbrev pub in_member_default : Tree → Exprs → (List ℕ → Bool) → KeptMemberDefault → Bool
in_member_default tree exprs p d = mentions p (node_expr exprs d.condition) || in_member tree p d.member

-- whether some name in these defaults of a choice passes a test of names
abbrev pub in_member_defaults : Tree → Exprs → (List ℕ → Bool) → List KeptMemberDefault → Bool
in_member_defaults tree exprs p ds = list_any (in_member_default tree exprs p) ds

-- whether some name in the condition of a choice's prompt passes a test of names; false without a prompt
abbrev pub in_prompt : Exprs → (List ℕ → Bool) → Option ℕ → Bool
in_prompt exprs p None = false
in_prompt exprs p (Some i) = mentions p (node_expr exprs i)

-- the condition on which a choice is shown, if it has a prompt and that counts; under the rules of Linux 6.12 it doesn't
abbrev pub counted_prompt : Tree → KeptChoice → Option ℕ
counted_prompt tree k = if is_linux_6_12 tree.language then None else k.prompt

-- whether some name in the conditions of a choice's prompt, where it counts, defaults and members' prompts passes a test of names
abbrev pub in_choice : Tree → Exprs → (List ℕ → Bool) → KeptChoice → Bool
in_choice tree exprs p k = in_prompt exprs p (counted_prompt tree k) || in_member_defaults tree exprs p k.defaults.now || in_members tree p k.members.now

-- whether some symbol that selects or implies, in a list of selects or implies, belongs to the unit with this number
abbrev pub depends_on_reverse : Tree → ℕ → List KeptReverseDependency → Bool
depends_on_reverse tree d fs = list_any (λ (f : KeptReverseDependency). unit_of tree f.by == d) fs

-- whether a symbol of this type depends on the unit with this number by `MODULES`: it is a tristate, and `MODULES` belongs to the
-- unit
abbrev pub by_modules : Tree → ℕ → Kind → Option ℕ → Bool
by_modules tree d kind modules = is_tristate kind && is_at d (option_map (unit_of tree) modules)

-- What makes a symbol or a choice depend on another.
use Rattle.std.specs.Prelude.{ℕ, Bool, false, not, ◌&&◌, ◌||◌, ◌==◌, List, [], ◌∷◌, Option, Some, None, find, slice_get}
use Rattle.std.specs.List.{list_any}
use Rattle.kc_value.specs.Kinds.{is_tristate}
use Rattle.kc_tokens.specs.Languages.{is_linux_6_12}
use Rattle.kc_expr.specs.Expr.{Expr, Operand, modules}
use Rattle.kc_expr.specs.ExpressionNames.{names_in, operand_names}
use Rattle.kc_tree_model.specs.Trees.{Tree, Symbol, Choice, Default, Range, ReverseDependency, MemberDefault}
use Rattle.kc_tree_model.specs.TreeLookup.{symbol_named, unit_of}
use Rattle.kc_tree_model.specs.declared.ids.Unit.{Unit as TreeUnit}
use Rattle.kc_tree_model.specs.declared.ids.Unit.TheVariants.{Symbol as of_symbol, Choice as of_choice}
use Rattle.kmin_faults.specs.declared.causes.Cause.{Cause}
use Rattle.kmin_faults.specs.declared.causes.Cause.TheVariants as causes

-- whether a name is that of a symbol of the unit with this number
abbrev pub is_of_unit : Tree → (unit : ℕ) → (name : List ℕ) → Bool
is_of_unit tree unit name = elim (symbol_named tree name) [ None ↦ false | Some s ↦ unit_of tree s == unit ]

-- whether an expression names a symbol of the unit
abbrev pub names_unit : Tree → (unit : ℕ) → Expr → Bool
names_unit tree unit e = list_any (is_of_unit tree unit) (names_in e)

-- whether a bound of a range is the name of a symbol of the unit
abbrev pub bound_names_unit : Tree → (unit : ℕ) → Operand → Bool
bound_names_unit tree unit bound = list_any (is_of_unit tree unit) (operand_names bound)

-- whether a default's value or condition names a symbol of the unit
abbrev pub default_names_unit : Tree → (unit : ℕ) → Default → Bool
default_names_unit tree unit d = names_unit tree unit d.value || names_unit tree unit d.condition

-- whether a bound or the condition of a range names a symbol of the unit
abbrev pub range_names_unit : Tree → (unit : ℕ) → Range → Bool
range_names_unit tree unit r = bound_names_unit tree unit r.low || bound_names_unit tree unit r.high || names_unit tree unit r.condition

-- whether a select or an imply is that of a symbol of the unit, or its condition names one
abbrev pub reverse_names_unit : Tree → (unit : ℕ) → ReverseDependency → Bool
reverse_names_unit tree unit f = (unit_of tree f.by == unit) || names_unit tree unit f.condition

-- whether a cause makes a symbol depend on the unit
abbrev pub symbol_depends : Cause → Tree → Symbol → (unit : ℕ) → Bool
symbol_depends causes.DependsOn tree symbol unit = list_any (names_unit tree unit) symbol.direct
symbol_depends causes.Prompt tree symbol unit = list_any (names_unit tree unit) symbol.prompts
symbol_depends causes.Default tree symbol unit = list_any (default_names_unit tree unit) symbol.defaults
symbol_depends causes.Range tree symbol unit = list_any (range_names_unit tree unit) symbol.ranges
symbol_depends causes.Select tree symbol unit = list_any (reverse_names_unit tree unit) symbol.selectors
symbol_depends causes.Imply tree symbol unit = list_any (reverse_names_unit tree unit) symbol.impliers
symbol_depends causes.Member tree symbol unit = false
symbol_depends causes.Tristate tree symbol unit = is_tristate symbol.kind && is_of_unit tree unit modules

-- whether the condition of a choice's prompt names a symbol of the unit; false without a prompt
abbrev pub prompt_names_unit : Tree → (unit : ℕ) → Option Expr → Bool
prompt_names_unit tree unit None = false
prompt_names_unit tree unit (Some e) = names_unit tree unit e

-- whether a prompt of a symbol names a symbol of the unit; false without a symbol
abbrev pub prompts_name_unit : Tree → (unit : ℕ) → Option Symbol → Bool
prompts_name_unit tree unit None = false
prompts_name_unit tree unit (Some symbol) = list_any (names_unit tree unit) symbol.prompts

-- whether a cause makes a choice depend on the unit; under the rules of Linux 6.12 the condition of its prompt counts for nothing
abbrev pub choice_depends : Cause → Tree → Choice → (unit : ℕ) → Bool
choice_depends causes.Prompt tree choice unit = not (is_linux_6_12 tree.language) && prompt_names_unit tree unit choice.prompt
choice_depends causes.Default tree choice unit = list_any (λ (d : MemberDefault). names_unit tree unit d.condition) choice.defaults
choice_depends causes.Member tree choice unit = list_any (λ s. prompts_name_unit tree unit (slice_get tree.symbols s)) choice.members
choice_depends cause tree choice unit = false

-- whether a cause makes a unit of the tree depend on the unit with a number; false without a unit
abbrev pub unit_depends : Cause → Tree → Option TreeUnit → (unit : ℕ) → Bool
unit_depends cause tree None unit = false
unit_depends cause tree (Some (of_symbol s)) unit = elim (slice_get tree.symbols s) [ None ↦ false | Some symbol ↦ symbol_depends cause tree symbol unit ]
unit_depends cause tree (Some (of_choice c)) unit = elim (slice_get tree.choices c) [ None ↦ false | Some choice ↦ choice_depends cause tree choice unit ]

-- what can make a unit depend on another, in the order in which it is looked for: a symbol's direct dependencies first, since its
-- other conditions have them too
abbrev pub all_causes : List Cause
all_causes =
    causes.DependsOn ∷ causes.Prompt ∷ causes.Default ∷ causes.Range ∷ causes.Select ∷ causes.Imply ∷ causes.Member ∷ causes.Tristate ∷ []

-- the first cause that makes a unit depend on another, both by their numbers; None if none does
abbrev pub cause_of : Tree → (unit other : ℕ) → Option Cause
cause_of tree unit other = find (λ cause. unit_depends cause tree (slice_get tree.units unit) other) all_causes

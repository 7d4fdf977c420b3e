-- The attributes of a stored tree, as the rules have them.
use Rattle.std.specs.Prelude.{ℕ, ◌<◌, All, Bool, not, ◌&&◌, Option, find, List, length}
use Rattle.std.specs.Option.{option_map}
use Rattle.kc_tree_model.specs.Trees.{MemberDefault}
use Rattle.kc_value.specs.Tri.{is_n}
use Rattle.kc_rules_model.specs.SymbolValues.{condition}
use Rattle.kc_rules_model.specs.Rule.{is_visible_member}
use Rattle.kc_expr.specs.between.Arena.{Exprs}
use Rattle.kc_tree_model.specs.Trees.{Tree}
use Rattle.kc_tree.specs.between.Views.{RangeFits}
use Rattle.kc_tree.specs.declared.symbol.Default.{Default as KeptDefault}
use Rattle.kc_tree.specs.declared.symbol.Range.{Range as KeptRange}
use Rattle.kc_tree.specs.declared.symbol.ReverseDependency.{ReverseDependency as KeptReverseDependency}
use Rattle.kc_tree.specs.declared.symbol.MemberDefault.{MemberDefault as KeptMemberDefault}
use Rattle.kc_rules_model.specs.declared.values.UnitValue.{UnitValue}

-- all numbers of a list are numbers of nodes of an arena of expressions
abbrev pub AreNodes : Exprs → List ℕ → Type 0
AreNodes exprs ids = All (λ i. i < length exprs.nodes) ids

-- each of some selects or implies has a symbol of the tree, and a condition that is a node of an arena of expressions
abbrev pub AreReverseDependencies : Exprs → Tree → List KeptReverseDependency → Type 0
AreReverseDependencies exprs tree fs = All (λ (f : KeptReverseDependency). (f.by < length tree.symbols) × (f.condition < length exprs.nodes)) fs

-- each of some defaults has a value and a condition that are nodes of an arena of expressions
abbrev pub AreDefaults : Exprs → List KeptDefault → Type 0
AreDefaults exprs ds = All (λ (d : KeptDefault). (d.value < length exprs.nodes) × (d.condition < length exprs.nodes)) ds

-- each of some ranges has bounds and a condition that are nodes of an arena of expressions
abbrev pub AreRanges : Exprs → List KeptRange → Type 0
AreRanges exprs rs = All (RangeFits (length exprs.nodes)) rs

-- each of some defaults of a choice has a symbol of the tree, and a condition that is a node of an arena of expressions
abbrev pub AreMemberDefaults : Exprs → Tree → List KeptMemberDefault → Type 0
AreMemberDefaults exprs tree ds = All (λ (d : KeptMemberDefault). (d.member < length tree.symbols) × (d.condition < length exprs.nodes)) ds

-- all numbers of a list are numbers of symbols of a tree
abbrev pub AreMembers : Tree → List ℕ → Type 0
AreMembers tree ms = All (λ s. s < length tree.symbols) ms

-- whether a default of a choice counts: its condition isn't `n` and its member is visible
abbrev pub is_open : Tree → List UnitValue → MemberDefault → Bool
is_open tree values d = not (is_n (condition tree values d.condition)) && is_visible_member tree values d.member

-- the member of the first of a choice's defaults that has a condition other than `n` and a visible member, if there is one
abbrev pub default_member_of : Tree → List UnitValue → List MemberDefault → Option ℕ
default_member_of tree values ds = option_map (λ (d : MemberDefault). d.member) (find (is_open tree values) ds)

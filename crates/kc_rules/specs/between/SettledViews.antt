-- A settled tree as contracts see it.
use Rattle.std.specs.Prelude.{if◌then◌else◌}
use Rattle.kc_value.specs.declared.value.Value.{Value}
use Rattle.kc_value.specs.declared.value.Value.TheVariants.{Tri as TriValue, Text as TextValue}
use Rattle.kc_value.specs.declared.value.ValueRef.{ValueRef}
use Rattle.kc_value.specs.declared.value.ValueRef.TheVariants.{Tri as TriLent, Text as TextLent}
use Rattle.kc_expr.specs.Expr.{SymbolValue}
use Rattle.kc_tree.specs.TreeModel.{TreeModel}
use Rattle.kc_tree_model.specs.Trees.{Tree}
use Rattle.kc_rules_model.specs.declared.profile.Profile.{Profile}
use Rattle.kc_value.specs.Kinds.{is_tri_kind}
use Rattle.kc_rules.specs.declared.rules.Settled.{Settled}

-- the tree of a settled tree, together with the arena of its expressions
abbrev pub tree_model_of : Settled → TreeModel
tree_model_of settled = settled.rules.tree

-- the tree of a settled tree, as the definitions have it
abbrev pub tree_of_settled : Settled → Tree
tree_of_settled settled = settled.rules.tree.tree

-- the profile of a settled tree, which says how `imply` acts in it
abbrev pub profile_of : Settled → Profile
profile_of settled = settled.rules.profile

-- the value of a symbol as the code has it: a tristate for a bool or tristate, a text for any other type
abbrev pub value_view : SymbolValue → Value
value_view seen = if is_tri_kind seen.kind then TriValue seen.tri else TextValue seen.text

-- the value to which a borrowed value refers
abbrev pub value_of_ref : ValueRef → Value
value_of_ref (TriLent t) = TriValue t
value_of_ref (TextLent text) = TextValue text.now

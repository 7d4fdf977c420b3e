-- What an attribute of the code is, by the definitions.
use Rattle.kc_symbol_lines.proofs.Common.{◌≡◌, ◌<◌, cond, length, Option, Some, None, refl, option_map, IfSome, Exprs, attribute_in, AttributeNodesExist, Attribute, TargetAttribute, ReverseKind, prompt_of, is_given, ReadAttribute}
use Rattle.kc_conditions.proofs.Growth.{if_there}
use Rattle.kc_tree_model.specs.declared.statement.Attribute.TheVariants as attributes
use Rattle.kc_tree_model.specs.Statements as model
use Rattle.kc_symbol_lines.specs.declared.own_lines.Given.TheVariants as given
use Rattle.kc_tree_model.specs.declared.statement.ReverseKind.TheVariants as kinds

abbrev pub target_meant : ReverseKind → Attribute → Option TargetAttribute
target_meant kinds.Select a = model.select_of a
target_meant kinds.Imply a = model.imply_of a

pub default_is : {X : Type 0} (e : Exprs) (x : X) (a : ReadAttribute)
    → option_map (λ _. x) (model.default_of (attribute_in e a)) ≡ cond (is_given given.Default a) (Some x) None
default_is e x (attributes.TypedDefault k d) = refl
default_is e x (attributes.Default d) = refl
default_is e x a = refl

pub range_is : {X : Type 0} (e : Exprs) (x : X) (a : ReadAttribute)
    → option_map (λ _. x) (model.range_of (attribute_in e a)) ≡ cond (is_given given.Range a) (Some x) None
range_is e x (attributes.Range r) = refl
range_is e x a = refl

-- the expressions of attributes are nodes of the arena
pub prompt_held : (e : Exprs) (a : ReadAttribute) → AttributeNodesExist e a → IfSome (prompt_of a) (λ c. IfSome c (λ i. i < length e.nodes))
prompt_held e (attributes.TypedPrompt k c) h = if_there e c h
prompt_held e (attributes.Prompt c) h = if_there e c h
prompt_held e a h = tt

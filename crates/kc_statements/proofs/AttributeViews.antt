-- What an attribute gives is the same by numbers of an arena and by what they stand for.
use Rattle.std.specs.Prelude.{IfSome, option_map}
use Rattle.kc_statements.proofs.Common.{◌≡◌, ◌<◌, [], length, refl, slice_index_or, Exprs, if_in, default_in}
use Rattle.kc_tree_model.specs.Statements.{type_of, prompt_of, default_of, is_modules, is_optional}
use Rattle.kc_tree_model.specs.between.Attributes.{is_prompt, is_range, target_of}
use Rattle.kc_tree_model.specs.declared.statement.Attribute.TheVariants as attributes
use Rattle.kc_statements.specs.between.StatementViews.{ReadAttribute, attribute_in, AttributeNodesExist, DefaultNodesExist}

pub type_same : (e : Exprs) (a : ReadAttribute) → type_of a ≡ type_of (attribute_in e a)
type_same e (attributes.Typed k) = refl
type_same e (attributes.TypedPrompt k c) = refl
type_same e (attributes.TypedDefault k d) = refl
type_same e a = refl

pub prompt_same : (e : Exprs) (a : ReadAttribute) → option_map (if_in e) (prompt_of a) ≡ prompt_of (attribute_in e a)
prompt_same e (attributes.TypedPrompt k c) = refl
prompt_same e (attributes.Prompt c) = refl
prompt_same e a = refl

pub is_prompt_same : (e : Exprs) (a : ReadAttribute) → is_prompt a ≡ is_prompt (attribute_in e a)
is_prompt_same e (attributes.TypedPrompt k c) = refl
is_prompt_same e (attributes.Prompt c) = refl
is_prompt_same e a = refl

pub default_same : (e : Exprs) (a : ReadAttribute) → option_map (default_in e) (default_of a) ≡ default_of (attribute_in e a)
default_same e (attributes.TypedDefault k d) = refl
default_same e (attributes.Default d) = refl
default_same e a = refl

pub default_held : (e : Exprs) (a : ReadAttribute) → AttributeNodesExist e a → IfSome (default_of a) (DefaultNodesExist e)
default_held e (attributes.TypedDefault k d) h = h
default_held e (attributes.Default d) h = h
default_held e a h = tt

pub is_range_same : (e : Exprs) (a : ReadAttribute) → is_range a ≡ is_range (attribute_in e a)
is_range_same e (attributes.Range r) = refl
is_range_same e a = refl

pub is_modules_same : (e : Exprs) (a : ReadAttribute) → is_modules a ≡ is_modules (attribute_in e a)
is_modules_same e attributes.Modules = refl
is_modules_same e a = refl

pub is_optional_same : (e : Exprs) (a : ReadAttribute) → is_optional a ≡ is_optional (attribute_in e a)
is_optional_same e attributes.Optional = refl
is_optional_same e a = refl

pub target_same : (e : Exprs) (a : ReadAttribute) → option_map (λ id. slice_index_or e.names id []) (target_of a) ≡ target_of (attribute_in e a)
target_same e (attributes.Select s) = refl
target_same e (attributes.Imply s) = refl
target_same e a = refl

pub target_held : (e : Exprs) (a : ReadAttribute) → AttributeNodesExist e a → IfSome (target_of a) (λ id. id < length e.names)
target_held e (attributes.Select s) h = h.0
target_held e (attributes.Imply s) h = h.0
target_held e a h = tt

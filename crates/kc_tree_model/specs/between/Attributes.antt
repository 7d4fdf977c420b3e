-- What an attribute gives to the crates that gather attributes, and names for the types of a tree's own attributes.
use Rattle.std.specs.Prelude.{ℕ, Bool, List, Option, Some, None, is_some}
use Rattle.kc_expr.specs.Expr.{Expr, Operand}
use Rattle.kc_tree_model.specs.declared.statement.DefaultAttribute.{DefaultAttribute as DefaultOf}
use Rattle.kc_tree_model.specs.declared.statement.TargetAttribute.{TargetAttribute as TargetOf}
use Rattle.kc_tree_model.specs.declared.statement.RangeAttribute.{RangeAttribute as RangeOf}
use Rattle.kc_tree_model.specs.declared.statement.Attribute.{Attribute as AttributeOf}
use Rattle.kc_tree_model.specs.declared.statement.Attribute.TheVariants.{TypedPrompt, TypedDefault, Prompt, Default, Depends, Select, Imply, Range, Visible}
use Rattle.kc_tree_model.specs.Statements.{prompt_of, range_of}
use Rattle.kc_tree_model.specs.declared.statement.Conjuncts.{Conjuncts}
use Rattle.kc_tree_model.specs.declared.statement.Conjuncts.TheVariants.{Dependencies, Visibles}
use Rattle.kc_tree_model.specs.declared.statement.ReverseKind.{ReverseKind}
use Rattle.kc_tree_model.specs.declared.statement.ReverseKind.TheVariants as kinds

-- a `default`, or an `option env`
abbrev pub DefaultAttribute : Type 0
DefaultAttribute = DefaultOf Expr

-- a `select` or an `imply`
abbrev pub TargetAttribute : Type 0
TargetAttribute = TargetOf Expr (List ℕ)

-- a `range`
abbrev pub RangeAttribute : Type 0
RangeAttribute = RangeOf Expr Operand

-- whether an attribute is a prompt, with or without a type
abbrev pub is_prompt : {E O N : Type 0} → AttributeOf E O N → Bool
is_prompt a = is_some (prompt_of a)

-- whether an attribute is a range
abbrev pub is_range : {E O N : Type 0} → AttributeOf E O N → Bool
is_range a = is_some (range_of a)

-- the expression after an attribute's `if`; `None` for an attribute without an `if`
abbrev pub if_given : {E O N : Type 0} → AttributeOf E O N → Option E
if_given (TypedPrompt k c) = c
if_given (TypedDefault k d) = d.condition
if_given (Prompt c) = c
if_given (Default d) = d.condition
if_given (Select s) = s.condition
if_given (Imply s) = s.condition
if_given (Range r) = r.condition
if_given a = None

-- the expression of a `depends on` or of a `visible if`, as the first argument asks; `None` for any other attribute
abbrev pub conjunct_given : {E O N : Type 0} → Conjuncts → AttributeOf E O N → Option E
conjunct_given Dependencies (Depends e) = Some e
conjunct_given Dependencies a = None
conjunct_given Visibles (Visible e) = Some e
conjunct_given Visibles a = None

-- the name that a `select` or an `imply`, as the first argument asks, targets; `None` for any other attribute
abbrev pub target_given : {E O N : Type 0} → ReverseKind → AttributeOf E O N → Option N
target_given kinds.Select (Select s) = Some s.name
target_given kinds.Select a = None
target_given kinds.Imply (Imply s) = Some s.name
target_given kinds.Imply a = None

-- the name that a `select` or `imply` targets; `None` for any other attribute
abbrev pub target_of : {E O N : Type 0} → AttributeOf E O N → Option N
target_of (Select s) = Some s.name
target_of (Imply s) = Some s.name
target_of a = None

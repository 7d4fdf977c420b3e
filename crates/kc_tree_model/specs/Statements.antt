-- Statements and attributes: the meaning of a tree's logical lines, with expressions, operands and texts.
use Rattle.std.specs.Prelude.{ℕ, Bool, true, false, List, Option, Some, None}
use Rattle.kc_value.specs.declared.value.Kind.{Kind}
use Rattle.kc_expr.specs.Expr.{Expr, Operand, alone}
use Rattle.kc_tree_model.specs.declared.keyword.Block.{Block}
use Rattle.kc_tree_model.specs.declared.keyword.Block.TheVariants as blocks
use Rattle.kc_tree_model.specs.declared.statement.Head.{Head as HeadOf}
use Rattle.kc_tree_model.specs.declared.statement.Head.TheVariants.{Config as config, Choice as choice, Menu as menu, Condition as condition, Source as source}
use Rattle.kc_tree_model.specs.declared.statement.DefaultAttribute.{DefaultAttribute}
use Rattle.kc_tree_model.specs.declared.statement.TargetAttribute.{TargetAttribute}
use Rattle.kc_tree_model.specs.declared.statement.RangeAttribute.{RangeAttribute}
use Rattle.kc_tree_model.specs.declared.statement.Attribute.{Attribute as AttributeOf}
use Rattle.kc_tree_model.specs.declared.statement.Attribute.TheVariants as attributes
use Rattle.kc_tree_model.specs.declared.statement.Statement.{Statement as StatementOf}

-- a statement that is no attribute
abbrev pub Head : Type 0
Head = HeadOf Expr (List ℕ) (List ℕ)

-- an attribute
abbrev pub Attribute : Type 0
Attribute = AttributeOf Expr Operand (List ℕ)

-- the meaning of one logical line
abbrev pub Statement : Type 0
Statement = StatementOf Head Attribute

-- the default that an `option env` with this text is, without a condition
abbrev pub environment_default : Operand → DefaultAttribute Expr
environment_default text = record { value = alone text; single = true; condition = None; from_environment = true }

-- the name of the symbol that a `config` defines, or None of any other statement
abbrev pub name_of_head : Head → Option (List ℕ)
name_of_head (config name) = Some name
name_of_head h = None

-- the path of a `source`, or None of any other statement
abbrev pub path_of_head : Head → Option (List ℕ)
path_of_head (source path) = Some path
path_of_head h = None

-- the title of a `menu`, or None of any other statement
abbrev pub title_of_head : Head → Option (List ℕ)
title_of_head (menu title) = Some title
title_of_head h = None

-- the block that a statement opens, if it opens a menu, an `if` or a choice
abbrev pub block_of_head : Head → Option Block
block_of_head choice = Some blocks.Choice
block_of_head (menu title) = Some blocks.Menu
block_of_head (condition e) = Some blocks.If
block_of_head h = None

-- whether two blocks are both menus, both `if`s or both choices
abbrev pub same_block : Block → Block → Bool
same_block blocks.Menu blocks.Menu = true
same_block blocks.If blocks.If = true
same_block blocks.Choice blocks.Choice = true
same_block b c = false

-- the type that an attribute gives, if it gives one
abbrev pub type_of : {E O N : Type 0} → AttributeOf E O N → Option Kind
type_of (attributes.Typed k) = Some k
type_of (attributes.TypedPrompt k c) = Some k
type_of (attributes.TypedDefault k d) = Some k
type_of a = None

-- the condition of a prompt's `if`; `Some None` if the prompt has no `if`, and None if the attribute has no prompt
abbrev pub prompt_of : {E O N : Type 0} → AttributeOf E O N → Option (Option E)
prompt_of (attributes.Prompt c) = Some c
prompt_of (attributes.TypedPrompt k c) = Some c
prompt_of a = None

-- the default that an attribute gives, if it gives one
abbrev pub default_of : {E O N : Type 0} → AttributeOf E O N → Option (DefaultAttribute E)
default_of (attributes.Default d) = Some d
default_of (attributes.TypedDefault k d) = Some d
default_of a = None

-- the expression of a `depends on`, if an attribute is one
abbrev pub depends_of : {E O N : Type 0} → AttributeOf E O N → Option E
depends_of (attributes.Depends e) = Some e
depends_of a = None

-- the expression of a `visible if`, if an attribute is one
abbrev pub visible_of : {E O N : Type 0} → AttributeOf E O N → Option E
visible_of (attributes.Visible e) = Some e
visible_of a = None

-- the range that an attribute is, if it is one
abbrev pub range_of : {E O N : Type 0} → AttributeOf E O N → Option (RangeAttribute E O)
range_of (attributes.Range r) = Some r
range_of a = None

-- the `select` that an attribute is, if it is one
abbrev pub select_of : {E O N : Type 0} → AttributeOf E O N → Option (TargetAttribute E N)
select_of (attributes.Select s) = Some s
select_of a = None

-- the `imply` that an attribute is, if it is one
abbrev pub imply_of : {E O N : Type 0} → AttributeOf E O N → Option (TargetAttribute E N)
imply_of (attributes.Imply s) = Some s
imply_of a = None

-- whether an attribute is `modules`, which marks the symbol that enables modules
abbrev pub is_modules : {E O N : Type 0} → AttributeOf E O N → Bool
is_modules attributes.Modules = true
is_modules a = false

-- whether an attribute is `optional`, which marks an optional choice
abbrev pub is_optional : {E O N : Type 0} → AttributeOf E O N → Bool
is_optional attributes.Optional = true
is_optional a = false

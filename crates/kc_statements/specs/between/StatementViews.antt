-- The statements that the code reads, as the definitions have them: with expressions and names in place of their numbers in an
-- arena.
use Rattle.std.specs.Prelude.{◌≡◌, ◌⊎◌, ℕ, ◌<◌, List, [], length, Option, Some, None, option_map, unwrap_or, slice_index_or, Result, Ok, Err}
use Rattle.std.specs.Borrow.{Bor}
use Rattle.kc_value.specs.declared.tri.Tri.TheVariants.{N}
use Rattle.kc_expr.specs.between.Arena.{Exprs, Represents, node_expr}
use Rattle.kc_expr.specs.Expr.{Expr, Operand, alone, constant}
use Rattle.kc_expr.specs.between.Operand.{operand_alone}
use Rattle.kc_tree_model.specs.declared.fault.TreeKind.{TreeKind}
use Rattle.kc_tree_model.specs.declared.fault.TreeKind.TheVariants.{OutOfMemory}
use Rattle.kc_tree_model.specs.declared.statement.Head.{Head as HeadOf}
use Rattle.kc_tree_model.specs.declared.statement.Head.TheVariants as heads
use Rattle.kc_tree_model.specs.declared.statement.DefaultAttribute.{DefaultAttribute as DefaultOf}
use Rattle.kc_tree_model.specs.declared.statement.TargetAttribute.{TargetAttribute as TargetOf}
use Rattle.kc_tree_model.specs.declared.statement.RangeAttribute.{RangeAttribute as RangeOf}
use Rattle.kc_tree_model.specs.declared.statement.Attribute.{Attribute as AttributeOf}
use Rattle.kc_tree_model.specs.declared.statement.Attribute.TheVariants as attributes
use Rattle.kc_tree_model.specs.declared.statement.Statement.{Statement as StatementOf}
use Rattle.kc_tree_model.specs.declared.statement.Statement.TheVariants as statements
use Rattle.kc_tree_model.specs.Statements.{Head, Attribute, Statement}
use Rattle.kc_tree_model.specs.between.Attributes.{DefaultAttribute, TargetAttribute, RangeAttribute}

-- a statement other than an attribute that the code has read: its condition is the number of a node of the arena
abbrev pub ReadHead : Type 0
ReadHead = HeadOf ℕ (Bor (List ℕ)) (List ℕ)

-- a default, a `select` or `imply`, a range, and an attribute that the code has read: expressions, operands and names are numbers
-- of the arena
abbrev pub ReadDefault : Type 0
ReadDefault = DefaultOf ℕ

abbrev pub ReadTarget : Type 0
ReadTarget = TargetOf ℕ ℕ

abbrev pub ReadRange : Type 0
ReadRange = RangeOf ℕ ℕ

abbrev pub ReadAttribute : Type 0
ReadAttribute = AttributeOf ℕ ℕ ℕ

-- a statement that the code has read
abbrev pub ReadStatement : Type 0
ReadStatement = StatementOf ReadHead ReadAttribute

-- a result of the code agrees with that of a definition: the definition gives what the view makes of an `Ok`'s value, and an
-- `Err` is the definition's fault, or out of memory
abbrev pub ReturnsOrFails : {A B : Type 0} → (A → B) → Result A TreeKind → Result B TreeKind → Type 0
ReturnsOrFails view (Ok x) given = given ≡ Ok (view x)
ReturnsOrFails view (Err k) given = (k ≡ OutOfMemory) ⊎ (given ≡ Err k)

-- the condition after an `if`, by the number of its node in the arena; none if there is no `if`
abbrev pub if_in : Exprs → Option ℕ → Option Expr
if_in e c = option_map (node_expr e) c

-- the operand that an expression consists of; the constant `n` if it isn't one operand alone
abbrev pub operand_of_expr : Expr → Operand
operand_of_expr e = unwrap_or (operand_alone e) (constant N)

-- the operand that the expression of a node of the arena consists of; the constant `n` if it isn't one operand alone
abbrev pub operand_or_n : Exprs → ℕ → Operand
operand_or_n e id = operand_of_expr (node_expr e id)

-- a `default` attribute that the code has read, with expressions in place of the numbers of their nodes in the arena
abbrev pub default_in : Exprs → ReadDefault → DefaultAttribute
default_in e d = record { value = node_expr e d.value; single = d.single; condition = if_in e d.condition; from_environment = d.from_environment }

-- a `select` or `imply` attribute that the code has read, with the name and the condition in place of their numbers in the arena
abbrev pub target_in : Exprs → ReadTarget → TargetAttribute
target_in e s = record { name = slice_index_or e.names s.name []; condition = if_in e s.condition }

-- a `range` attribute that the code has read, with operands and the condition in place of the numbers of their nodes in the arena
abbrev pub range_in : Exprs → ReadRange → RangeAttribute
range_in e r = record { low = operand_or_n e r.low; high = operand_or_n e r.high; condition = if_in e r.condition }

-- an attribute that the code has read, with expressions and names in place of their numbers in the arena
abbrev pub attribute_in : Exprs → ReadAttribute → Attribute
attribute_in e (attributes.Typed k) = attributes.Typed k
attribute_in e (attributes.TypedPrompt k c) = attributes.TypedPrompt k (if_in e c)
attribute_in e (attributes.TypedDefault k d) = attributes.TypedDefault k (default_in e d)
attribute_in e (attributes.Prompt c) = attributes.Prompt (if_in e c)
attribute_in e (attributes.Default d) = attributes.Default (default_in e d)
attribute_in e (attributes.Depends id) = attributes.Depends (node_expr e id)
attribute_in e (attributes.Select s) = attributes.Select (target_in e s)
attribute_in e (attributes.Imply s) = attributes.Imply (target_in e s)
attribute_in e (attributes.Range r) = attributes.Range (range_in e r)
attribute_in e (attributes.Visible id) = attributes.Visible (node_expr e id)
attribute_in e attributes.Help = attributes.Help
attribute_in e attributes.Modules = attributes.Modules
attribute_in e attributes.Optional = attributes.Optional

-- a statement other than an attribute that the code has read, with a condition in place of the number of its node in the arena
abbrev pub head_in : Exprs → ReadHead → Head
head_in e (heads.Config name) = heads.Config name.now
head_in e heads.Choice = heads.Choice
head_in e (heads.Menu title) = heads.Menu title
head_in e (heads.Condition id) = heads.Condition (node_expr e id)
head_in e (heads.Comment title) = heads.Comment title
head_in e (heads.Source path) = heads.Source path
head_in e heads.Mainmenu = heads.Mainmenu
head_in e (heads.Ends b) = heads.Ends b

-- a statement that the code has read, with expressions and names in place of their numbers in the arena
abbrev pub statement_in : Exprs → ReadStatement → Statement
statement_in e (statements.Head h) = statements.Head (head_in e h)
statement_in e (statements.Attribute a) = statements.Attribute (attribute_in e a)

-- the number is that of a node of the arena
abbrev pub NodeExists : Exprs → ℕ → Type 0
NodeExists e id = id < length e.nodes

-- the condition, if there is one, is the number of a node of the arena
abbrev pub IfNodeExists : Exprs → Option ℕ → Type 0
IfNodeExists e None = Unit {0}
IfNodeExists e (Some id) = NodeExists e id

-- the number is that of a node of the arena whose expression is one operand
abbrev pub OperandNodeExists : Exprs → ℕ → Type 0
OperandNodeExists e id = Represents e id (alone (operand_or_n e id))

-- the value and the condition of a `default` attribute are numbers of nodes of the arena
abbrev pub DefaultNodesExist : Exprs → ReadDefault → Type 0
DefaultNodesExist e d = NodeExists e d.value × IfNodeExists e d.condition

-- the name of a `select` or `imply` attribute is the number of a name of the arena, and its condition that of a node
abbrev pub TargetNodesExist : Exprs → ReadTarget → Type 0
TargetNodesExist e s = (s.name < length e.names) × IfNodeExists e s.condition

-- the bounds of a `range` attribute are numbers of operands in the arena, and its condition is that of a node
abbrev pub RangeNodesExist : Exprs → ReadRange → Type 0
RangeNodesExist e r = OperandNodeExists e r.low × OperandNodeExists e r.high × IfNodeExists e r.condition

-- all numbers in an attribute are those of nodes and names of the arena
abbrev pub AttributeNodesExist : Exprs → ReadAttribute → Type 0
AttributeNodesExist e (attributes.TypedPrompt k c) = IfNodeExists e c
AttributeNodesExist e (attributes.TypedDefault k d) = DefaultNodesExist e d
AttributeNodesExist e (attributes.Prompt c) = IfNodeExists e c
AttributeNodesExist e (attributes.Default d) = DefaultNodesExist e d
AttributeNodesExist e (attributes.Depends id) = NodeExists e id
AttributeNodesExist e (attributes.Select s) = TargetNodesExist e s
AttributeNodesExist e (attributes.Imply s) = TargetNodesExist e s
AttributeNodesExist e (attributes.Range r) = RangeNodesExist e r
AttributeNodesExist e (attributes.Visible id) = NodeExists e id
AttributeNodesExist e a = Unit {0}

-- the condition of an `if` statement is the number of a node of the arena; other statements that aren't attributes have no
-- numbers
abbrev pub HeadNodesExist : Exprs → ReadHead → Type 0
HeadNodesExist e (heads.Condition id) = NodeExists e id
HeadNodesExist e h = Unit {0}

-- all numbers in a statement are those of nodes and names of the arena
abbrev pub StatementNodesExist : Exprs → ReadStatement → Type 0
StatementNodesExist e (statements.Head h) = HeadNodesExist e h
StatementNodesExist e (statements.Attribute a) = AttributeNodesExist e a

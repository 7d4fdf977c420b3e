-- Symbols, choices, entries and units as the code returns them represent those of the definition of a tree: each
-- number of an expression represents that expression.
use Rattle.std.specs.Prelude.{◌≡◌, ℕ, ◌<◌, List, [], length, map, All, Option, Some, None, IsSome, option_map, option_and_then, slice_get, slice_index_or}
use Rattle.kc_expr.specs.between.Arena.{Exprs, node_expr}
use Rattle.kc_expr.specs.Expr.{Expr, Operand, quoted}
use Rattle.kc_expr.specs.between.Operand.{operand_alone}
use Rattle.kc_tree_model.specs.Trees as tree
use Rattle.kc_tree_model.specs.Trees.{Tree}
use Rattle.kc_tree_model.specs.TreeLookup.{symbol_named}
use Rattle.kc_tree.specs.declared.symbol.Default.{Default}
use Rattle.kc_tree.specs.declared.symbol.Range.{Range}
use Rattle.kc_tree.specs.declared.symbol.ReverseDependency.{ReverseDependency}
use Rattle.kc_tree.specs.declared.symbol.Symbol.{Symbol}
use Rattle.kc_tree.specs.declared.symbol.MemberDefault.{MemberDefault}
use Rattle.kc_tree.specs.declared.symbol.Choice.{Choice}
use Rattle.kc_tree.specs.declared.entry.Entry.{Entry}
use Rattle.kc_tree.specs.declared.entry.Entry.TheVariants.{Definition, ChoiceBegins, MenuBegins, MenuEnds, Comment}

-- the operand that an expression consists of; the empty quoted text for an expression that isn't one operand
abbrev pub operand_or_empty : Expr → Operand
operand_or_empty e = elim (operand_alone e) [ None ↦ quoted [] | Some a ↦ a ]

-- the model's form of a stored default: the expressions of value and condition in place of their numbers
abbrev pub default_view : Exprs → Default → tree.Default
default_view exprs d = record { value = node_expr exprs d.value; condition = node_expr exprs d.condition; from_environment = d.from_environment }

-- the model's form of a stored range: operands as bounds, and the condition's expression in place of its number
abbrev pub range_view : Exprs → Range → tree.Range
range_view exprs r = record { low = operand_or_empty (node_expr exprs r.low); high = operand_or_empty (node_expr exprs r.high); condition = node_expr exprs r.condition }

-- the model's form of a stored `select` or `imply`: the symbol that has the attribute, and the condition's expression
abbrev pub reverse_dependency_view : Exprs → ReverseDependency → tree.ReverseDependency
reverse_dependency_view exprs f = record { by = f.by; condition = node_expr exprs f.condition }

-- the model's form of a stored symbol: its name and expressions in place of their numbers
abbrev pub symbol_view : Exprs → Symbol → tree.Symbol
symbol_view exprs k = record {
  name = slice_index_or exprs.names k.name [];
  kind = k.kind;
  file = k.file;
  line = k.line;
  prompts = map (node_expr exprs) k.prompts.now;
  defaults = map (default_view exprs) k.defaults.now;
  ranges = map (range_view exprs) k.ranges.now;
  selectors = map (reverse_dependency_view exprs) k.selectors.now;
  impliers = map (reverse_dependency_view exprs) k.impliers.now;
  direct = map (node_expr exprs) k.direct.now;
  choice = k.choice;
}

-- the model's form of a stored default of a choice: the member, and the condition's expression in place of its number
abbrev pub member_default_view : Exprs → MemberDefault → tree.MemberDefault
member_default_view exprs d = record { member = d.member; condition = node_expr exprs d.condition }

-- the model's form of a stored choice: expressions in place of their numbers
abbrev pub choice_view : Exprs → Choice → tree.Choice
choice_view exprs k = record {
  file = k.file;
  line = k.line;
  members = k.members.now;
  prompt = option_map (node_expr exprs) k.prompt;
  defaults = map (member_default_view exprs) k.defaults.now;
  optional = k.optional;
}

-- the model's form of a stored entry: expressions in place of their numbers
abbrev pub entry_view : Exprs → Entry → tree.Entry
entry_view exprs (Definition s) = tree.definition s
entry_view exprs (ChoiceBegins c) = tree.choice_begins c
entry_view exprs (MenuBegins title dependency visible) = tree.menu_begins title.now (node_expr exprs dependency) (node_expr exprs visible)
entry_view exprs (MenuEnds title dependency visible) = tree.menu_ends title.now (node_expr exprs dependency) (node_expr exprs visible)
entry_view exprs (Comment title dependency) = tree.comment title.now (node_expr exprs dependency)

-- the number of a tree's symbol whose name has this index in a list of names; `None` if there is no such symbol
abbrev pub symbol_of_name_id : Tree → List (List ℕ) → ℕ → Option ℕ
symbol_of_name_id whole names i = option_and_then (symbol_named whole) (slice_get names i)

-- the expression numbers of a default are below the number of nodes
abbrev pub DefaultFits : ℕ → Default → Type 0
DefaultFits nodes d = (d.value < nodes) × (d.condition < nodes)

-- the expression numbers of a range are below the number of nodes
abbrev pub RangeFits : ℕ → Range → Type 0
RangeFits nodes r = (r.low < nodes) × (r.high < nodes) × (r.condition < nodes)

-- each bound of a range is one operand
abbrev pub HasOperands : Exprs → Range → Type 0
HasOperands exprs r = IsSome (operand_alone (node_expr exprs r.low)) × IsSome (operand_alone (node_expr exprs r.high))

-- a `select` or `imply` has a condition below the number of nodes, and a symbol below the number of symbols
abbrev pub ReverseDependencyFits : ℕ → ℕ → ReverseDependency → Type 0
ReverseDependencyFits nodes symbols f = (f.by < symbols) × (f.condition < nodes)

-- the name, expression and symbol numbers in a symbol are in range, and the bounds of its ranges are operands
pub record SymbolFits (exprs : Exprs) (symbols : ℕ) (k : Symbol) : Type 0 where
  pub name : k.name < length exprs.names
  pub prompts : All (λ i. i < length exprs.nodes) k.prompts.now
  pub defaults : All (DefaultFits (length exprs.nodes)) k.defaults.now
  pub ranges : All (RangeFits (length exprs.nodes)) k.ranges.now
  pub bounds : All (HasOperands exprs) k.ranges.now
  pub selectors : All (ReverseDependencyFits (length exprs.nodes) symbols) k.selectors.now
  pub impliers : All (ReverseDependencyFits (length exprs.nodes) symbols) k.impliers.now
  pub direct : All (λ i. i < length exprs.nodes) k.direct.now

-- a choice's default has a condition below the number of nodes, and a member below the number of symbols
abbrev pub MemberDefaultFits : ℕ → ℕ → MemberDefault → Type 0
MemberDefaultFits nodes symbols d = (d.member < symbols) × (d.condition < nodes)

-- the symbol and expression numbers in a choice are in range
pub record ChoiceFits (exprs : Exprs) (symbols : ℕ) (k : Choice) : Type 0 where
  pub members : All (λ s. s < symbols) k.members.now
  pub prompt : (i : ℕ) → k.prompt ≡ Some i → i < length exprs.nodes
  pub defaults : All (MemberDefaultFits (length exprs.nodes) symbols) k.defaults.now

-- the expression, symbol and choice numbers in an entry are below the three counts, in this order
abbrev pub EntryFits : ℕ → ℕ → ℕ → Entry → Type 0
EntryFits nodes symbols choices (Definition s) = s < symbols
EntryFits nodes symbols choices (ChoiceBegins c) = c < choices
EntryFits nodes symbols choices (MenuBegins title dependency visible) = (dependency < nodes) × (visible < nodes)
EntryFits nodes symbols choices (MenuEnds title dependency visible) = (dependency < nodes) × (visible < nodes)
EntryFits nodes symbols choices (Comment title dependency) = dependency < nodes

-- The data of a tree: symbols, choices, entries and units, each condition joined with the enclosing ones.
use Rattle.std.specs.Prelude.{ℕ, Bool, List, Option}
use Rattle.kc_value.specs.declared.value.Kind.{Kind}
use Rattle.kc_tokens.specs.declared.language.Language.{Language}
use Rattle.kc_expr.specs.Expr.{Expr, Operand}
use Rattle.kc_tree_model.specs.declared.ids.Unit.{Unit as TreeUnit}

-- a default of a symbol: its value, its condition joined with the enclosing ones, and whether it is an `option env`
pub record Default : Type 0 where
  pub value : Expr
  pub condition : Expr
  pub from_environment : Bool

-- a range of a symbol: its bounds, and its condition joined with the enclosing ones
pub record Range : Type 0 where
  pub low : Operand
  pub high : Operand
  pub condition : Expr

-- a `select` or an `imply` of a symbol: the number of the symbol that selects or implies it, and the condition
pub record ReverseDependency : Type 0 where
  pub by : ℕ
  pub condition : Expr

-- a symbol: its name, its type, the file and line of its first definition, and the attributes of all its definitions in reading
-- order, each condition joined with the enclosing ones; `direct` has the dependency of each definition, or of a member of a
-- choice only that of its first, and `choice` has the number of the choice of which it is a member
pub record Symbol : Type 0 where
  pub name : List ℕ
  pub kind : Kind
  pub file : ℕ
  pub line : ℕ
  pub prompts : List Expr
  pub defaults : List Default
  pub ranges : List Range
  pub selectors : List ReverseDependency
  pub impliers : List ReverseDependency
  pub direct : List Expr
  pub choice : Option ℕ

-- a default of a choice: the number of the member among the symbols, and its condition joined with the enclosing ones
pub record MemberDefault : Type 0 where
  pub member : ℕ
  pub condition : Expr

-- a choice: its file and line, its members by their numbers among the symbols, in order of definition, the condition of its first
-- prompt, its defaults, and whether it is optional
pub record Choice : Type 0 where
  pub file : ℕ
  pub line : ℕ
  pub members : List ℕ
  pub prompt : Option Expr
  pub defaults : List MemberDefault
  pub optional : Bool

-- an entry of a tree: a definition of a symbol or the beginning of a choice, by its number, the beginning or the end of a menu,
-- or a comment; `visible` has the `visible if`s of the menu joined with the enclosing ones
pub data Entry : Type 0 where
  definition : ℕ → Entry
  choice_begins : ℕ → Entry
  menu_begins : (title : List ℕ) (dependency visible : Expr) → Entry
  menu_ends : (title : List ℕ) (dependency visible : Expr) → Entry
  comment : (title : List ℕ) (dependency : Expr) → Entry

-- a tree: its symbols and choices in order of first definition, its entries in reading order, its units in the order of their
-- numbers, and the language of its files, by which some of its rules are chosen
pub record Tree : Type 0 where
  pub symbols : List Symbol
  pub choices : List Choice
  pub entries : List Entry
  pub units : List TreeUnit
  pub language : Language

-- the same tree with another language
abbrev pub in_language : Language → Tree → Tree
in_language language tree = record { symbols = tree.symbols; choices = tree.choices; entries = tree.entries; units = tree.units; language = language }

-- The numbers of units and symbols in a tree, and what holds for every tree that is read.
use Rattle.std.specs.Prelude.{◌≡◌, ℕ, ◌<◌, ◌≤◌, Bool, true, false, not, ◌&&◌, ◌||◌, List, [], length, Option, Some, None, ◌==◌, nat_lt, nat_le, slice_get, bytes_eq}
use Rattle.std.specs.Str.{is_utf8}
use Rattle.std.specs.List.{position, position_or_len, list_all, list_any}
use Rattle.kc_value.specs.declared.value.Kind.TheVariants.{Bool as Boolean}
use Rattle.kc_expr.specs.Expr.{Expr, alone, named, quoted}
use Rattle.kc_tokens.specs.Token.{is_name_byte}
use Rattle.kc_tree_model.specs.Trees.{Tree, Symbol, Choice, Default, ReverseDependency, MemberDefault, Entry, definition, choice_begins, menu_begins, menu_ends, comment}
use Rattle.kc_tree_model.specs.declared.ids.Unit.{Unit as TreeUnit}
use Rattle.kc_tree_model.specs.declared.ids.Unit.TheVariants.{Symbol as of_symbol, Choice as of_choice}
use Rattle.kc_value.specs.declared.limits.TheConstants.{MAX_SYMBOLS, MAX_NAME_BYTES}
use Rattle.kc_value.specs.Lines.{has_newline}

-- whether two units are the same
abbrev pub is_same_unit : TreeUnit → TreeUnit → Bool
is_same_unit (of_symbol a) (of_symbol b) = a == b
is_same_unit (of_choice a) (of_choice b) = a == b
is_same_unit _ _ = false

-- the number of a unit in a tree, from 0, or the count of the tree's units if it isn't among them
abbrev pub index_of_unit : Tree → TreeUnit → ℕ
index_of_unit tree unit = position_or_len (is_same_unit unit) tree.units

-- the unit of a symbol by its number and that of its choice, if it is a member: its choice, or the symbol itself
abbrev pub unit_in : ℕ → Option ℕ → TreeUnit
unit_in s None = of_symbol s
unit_in s (Some c) = of_choice c

-- the number of the unit of a symbol, given by its number and itself, or the count of units if there is no such symbol
abbrev pub unit_of_symbol : Tree → ℕ → Option Symbol → ℕ
unit_of_symbol tree s None = length tree.units
unit_of_symbol tree s (Some symbol) = index_of_unit tree (unit_in s symbol.choice)

-- the number of the unit of the symbol with this number, or the count of units if there is no such symbol
abbrev pub unit_of : Tree → ℕ → ℕ
unit_of tree s = unit_of_symbol tree s (slice_get tree.symbols s)

-- the number of the symbol with this name in a tree, if an entry defines it
abbrev pub symbol_named : Tree → List ℕ → Option ℕ
symbol_named tree name = position (λ (s : Symbol). bytes_eq name s.name) tree.symbols

-- the text of an expression that is one name or one quoted text (an undefined name has itself as text); empty of any other
abbrev pub own_text : Expr → List ℕ
own_text (alone (named x)) = x
own_text (alone (quoted x)) = x
own_text _ = []

-- the title of a menu's beginning or end or of a comment; None of any other entry
abbrev pub title_of_entry : Entry → Option (List ℕ)
title_of_entry (menu_begins title dependency visible) = Some title
title_of_entry (menu_ends title dependency visible) = Some title
title_of_entry (comment title dependency) = Some title
title_of_entry e = None

-- A tree is consistent, which every tree is that is read without a fault: names are words and differ, each symbol outside choices
-- and each choice is one unit, members are bools of one choice, the defaults of a choice are its members, titles and default
-- values of one name or text are one line of UTF-8, selectors, impliers and entries are of symbols and choices of the tree, each
-- symbol has an entry (the full file writes it at the first), and the limits on the count of symbols and length of names hold.
pub record IsConsistent (tree : Tree) : Type 0 where
  pub words : (s : ℕ) (symbol : Symbol) → slice_get tree.symbols s ≡ Some symbol
      → (0 < length symbol.name) × (list_all is_name_byte symbol.name ≡ true)
  pub names_differ : (s t : ℕ) (a b : Symbol) → slice_get tree.symbols s ≡ Some a → slice_get tree.symbols t ≡ Some b
      → a.name ≡ b.name → s ≡ t
  pub units_differ : (u w : ℕ) (unit : TreeUnit) → slice_get tree.units u ≡ Some unit
      → slice_get tree.units w ≡ Some unit → u ≡ w
  pub symbol_units : (u s : ℕ) → slice_get tree.units u ≡ Some (of_symbol s)
      → (symbol : Symbol) × (slice_get tree.symbols s ≡ Some symbol) × (symbol.choice ≡ None)
  pub choice_units : (u c : ℕ) → slice_get tree.units u ≡ Some (of_choice c)
      → (choice : Choice) × (slice_get tree.choices c ≡ Some choice)
  pub own_units : (s : ℕ) (symbol : Symbol) → slice_get tree.symbols s ≡ Some symbol → symbol.choice ≡ None
      → (u : ℕ) × (slice_get tree.units u ≡ Some (of_symbol s))
  pub units_of_members : (s c : ℕ) (symbol : Symbol) → slice_get tree.symbols s ≡ Some symbol → symbol.choice ≡ Some c
      → (u : ℕ) × (slice_get tree.units u ≡ Some (of_choice c))
  pub bool_members : (s c : ℕ) (symbol : Symbol) → slice_get tree.symbols s ≡ Some symbol → symbol.choice ≡ Some c
      → symbol.kind ≡ Boolean
  pub members : (c s : ℕ) (choice : Choice) → slice_get tree.choices c ≡ Some choice
      → list_any (λ m. m == s) choice.members ≡ true
      → (symbol : Symbol) × (slice_get tree.symbols s ≡ Some symbol) × (symbol.choice ≡ Some c)
  pub listed : (s c : ℕ) (symbol : Symbol) → slice_get tree.symbols s ≡ Some symbol → symbol.choice ≡ Some c
      → (choice : Choice) × (slice_get tree.choices c ≡ Some choice) × (list_any (λ m. m == s) choice.members ≡ true)
  pub default_members : (c : ℕ) (choice : Choice) → slice_get tree.choices c ≡ Some choice
      → list_all (λ (d : MemberDefault). list_any (λ m. m == d.member) choice.members) choice.defaults ≡ true
  pub one_line : (s : ℕ) (symbol : Symbol) → slice_get tree.symbols s ≡ Some symbol
      → list_all (λ (d : Default). not (has_newline (own_text d.value))) symbol.defaults ≡ true
  pub own_utf8 : (s : ℕ) (symbol : Symbol) → slice_get tree.symbols s ≡ Some symbol
      → list_all (λ (d : Default). is_utf8 (own_text d.value)) symbol.defaults ≡ true
  pub selectors_there : (s : ℕ) (symbol : Symbol) → slice_get tree.symbols s ≡ Some symbol
      → list_all (λ (f : ReverseDependency). nat_lt f.by (length tree.symbols)) symbol.selectors ≡ true
  pub impliers_there : (s : ℕ) (symbol : Symbol) → slice_get tree.symbols s ≡ Some symbol
      → list_all (λ (f : ReverseDependency). nat_lt f.by (length tree.symbols)) symbol.impliers ≡ true
  pub units_of_choices : (c : ℕ) (choice : Choice) → slice_get tree.choices c ≡ Some choice
      → (u : ℕ) × (slice_get tree.units u ≡ Some (of_choice c))
  pub few_symbols : length tree.symbols ≤ MAX_SYMBOLS
  pub short_names : (s : ℕ) (symbol : Symbol) → slice_get tree.symbols s ≡ Some symbol
      → length symbol.name ≤ MAX_NAME_BYTES
  pub defined : (s : ℕ) (symbol : Symbol) → slice_get tree.symbols s ≡ Some symbol
      → (k : ℕ) × (slice_get tree.entries k ≡ Some (definition s))
  pub entry_symbols : (k s : ℕ) → slice_get tree.entries k ≡ Some (definition s) → s < length tree.symbols
  pub entry_choices : (k c : ℕ) → slice_get tree.entries k ≡ Some (choice_begins c) → c < length tree.choices
  pub titles_one_line : (k : ℕ) (entry : Entry) (title : List ℕ) → slice_get tree.entries k ≡ Some entry
      → title_of_entry entry ≡ Some title → has_newline title ≡ false
  pub titles_utf8 : (k : ℕ) (entry : Entry) (title : List ℕ) → slice_get tree.entries k ≡ Some entry
      → title_of_entry entry ≡ Some title → is_utf8 title ≡ true

-- Small trees, written by hand, on which the definitions are computed. In their comments / separates the lines of the Kconfig
-- file.
use Rattle.kc_rules_model.proofs.Common.{ℕ, true, false, List, [], ◌∷◌, Option, Some, None, length, map, codes, Tri, N, M, Y, Kind, Tristate, Text, Int, Strict, Expr, alone, both, shown, constant, named, quoted, Tree, Symbol, Default, definition, choice_begins, user_of, Profile, UnitValue}
use Rattle.kc_rules_model.proofs.Common.{UserValue}
use Rattle.std.specs.List.{range_with_len}
use Rattle.kc_value.specs.declared.value.Kind.TheVariants.{Bool as Boolean}
use Rattle.kc_tree_model.specs.Trees.{menu_begins, menu_ends, comment}
use Rattle.kc_tree_model.specs.declared.ids.Unit.TheVariants.{Symbol as of_symbol, Choice as of_choice}
use Rattle.kc_rules_model.specs.declared.values.UnitValue.TheVariants.{Tri as TriValue, Text as TextValue}
use Rattle.kc_rules_model.specs.declared.values.UserValue.TheVariants.{Tri as TriUser, Text as TextUser}
use Rattle.kc_rules_model.specs.Rule.{rule}

-- the value that each unit's rule gives from an assignment and values of all units; if these values come out again, they solve
-- the assignment
abbrev pub by_rules : Profile → Tree → List (Option UserValue) → List UnitValue → List UnitValue
by_rules profile tree users values = map (λ u. rule profile tree u (user_of users u) values) (range_with_len 0 (length tree.units))

abbrev pub n : UnitValue
n = TriValue N

abbrev pub m : UnitValue
m = TriValue M

abbrev pub y : UnitValue
y = TriValue Y

abbrev pub text : List ℕ → UnitValue
text t = TextValue t

abbrev pub sets : Tri → Option UserValue
sets t = Some (TriUser t)

abbrev pub writes : List ℕ → Option UserValue
writes t = Some (TextUser t)

abbrev pub always : Expr
always = alone (constant Y)

abbrev pub name : List ℕ → Expr
name x = alone (named x)

abbrev pub otherwise : Expr → Default
otherwise e = record { value = e; condition = always; from_environment = false }

abbrev pub from_environment : Expr → Default
from_environment e = record { value = e; condition = always; from_environment = true }

-- a symbol outside choices with these prompts and defaults, and no range, select, imply or dependency
abbrev pub plain : List ℕ → Kind → List Expr → List Default → Symbol
plain x kind prompts defaults =
    record {
      name = x;
      kind = kind;
      file = 0;
      line = 1;
      prompts = prompts;
      defaults = defaults;
      ranges = [];
      selectors = [];
      impliers = [];
      direct = always
          ∷ [];
      choice = None;
    }

abbrev pub one_symbol : Symbol → Tree
one_symbol symbol = record { symbols = symbol ∷ []; choices = []; entries = definition 0 ∷ []; units = of_symbol 0 ∷ []; language = Strict }

abbrev pub two_symbols : Symbol → Symbol → Tree
two_symbols a b = record { symbols = a ∷ b ∷ []; choices = []; entries = definition 0 ∷ definition 1 ∷ []; units = of_symbol 0 ∷ of_symbol 1 ∷ []; language = Strict }

abbrev pub three_symbols : Symbol → Symbol → Symbol → Tree
three_symbols a b c =
    record {
      symbols = a ∷ b ∷ c ∷ [];
      choices = [];
      entries = definition 0 ∷ definition 1 ∷ definition 2 ∷ [];
      units = of_symbol 0 ∷ of_symbol 1 ∷ of_symbol 2
          ∷ [];
      language = Strict;
    }

-- the tree of: config A / bool "a"
abbrev pub tree_a : Tree
tree_a = one_symbol (plain (codes "A") Boolean (always ∷ []) [])

-- the tree of: config A / bool "a" / default y
abbrev pub tree_default_y : Tree
tree_default_y = one_symbol (plain (codes "A") Boolean (always ∷ []) (otherwise always ∷ []))

-- the tree of: config A / bool "a" / default n
abbrev pub tree_default_n : Tree
tree_default_n = one_symbol (plain (codes "A") Boolean (always ∷ []) (otherwise (alone (constant N)) ∷ []))

-- the tree of: config MODULES / bool "mods" / default y / config D / tristate "d" / default m / config A / tristate "a" if D /
-- default y
abbrev pub tree_lifted : Tree
tree_lifted =
    three_symbols (plain (codes "MODULES") Boolean (always ∷ []) (otherwise always ∷ []))
    (plain (codes "D") Tristate (always ∷ []) (otherwise (alone (constant M)) ∷ []))
    (plain (codes "A") Tristate (name (codes "D") ∷ []) (otherwise always ∷ []))

-- the tree of: config N / int "n" / range 10 20 / default 5
abbrev pub tree_int : Tree
tree_int =
    one_symbol (record (plain (codes "N") Int (always ∷ []) (otherwise (name (codes "5")) ∷ []))
    { ranges = record { low = named (codes "10"); high = named (codes "20"); condition = always } ∷ [] })

-- the tree of: config S / string "s" / default "x"
abbrev pub tree_string : Tree
tree_string = one_symbol (plain (codes "S") Text (always ∷ []) (otherwise (alone (quoted (codes "x"))) ∷ []))

-- the tree of: config S / string "s" / option env "e" / default "x"
abbrev pub tree_from_environment : Tree
tree_from_environment =
    one_symbol (plain (codes "S") Text (always ∷ []) (from_environment (alone (quoted (codes "e"))) ∷ otherwise (alone (quoted (codes "x"))) ∷ []))

-- a bool of this name that is a member of the first choice, which is always shown, with this condition of its prompt
abbrev pub member : List ℕ → Expr → Symbol
member x prompt = record (plain x Boolean (prompt ∷ []) []) { direct = shown always ∷ []; choice = Some 0 }

-- the tree of: choice / prompt "pick" / default B / config A / bool "a" / config B / bool "b" / config C / bool "c" / depends on
-- X / endchoice / config X / bool "x"
abbrev pub tree_pick : Tree
tree_pick = record {
  symbols = member (codes "A") (shown always) ∷ member (codes "B") (shown always) ∷ member (codes "C") (both (name (codes "X")) (shown always)) ∷ plain
      (codes "X") Boolean (always ∷ []) [] ∷ [];
  choices = record {
    file = 0;
    line = 1;
    members = 0 ∷ 1 ∷ 2 ∷ [];
    prompt = Some always;
    defaults = record { member = 1; condition = always } ∷ [];
    optional = false;
  } ∷ [];
  entries = choice_begins 0 ∷ definition 0 ∷ definition 1 ∷ definition 2 ∷ definition 3 ∷ [];
  units = of_choice 0 ∷ of_symbol 3 ∷ [];
  language = Strict;
}

-- the tree of: choice / prompt "pick" / optional / default B / config A / bool "a" / config B / bool "b" / config C / bool "c" /
-- depends on X / endchoice / config X / bool "x"
abbrev pub tree_optional_pick : Tree
tree_optional_pick = record tree_pick {
  choices = record {
    file = 0;
    line = 1;
    members = 0 ∷ 1 ∷ 2 ∷ [];
    prompt = Some always;
    defaults = record { member = 1; condition = always } ∷ [];
    optional = true;
  } ∷ [];
}

-- the tree of: choice / prompt "p" if X / config A / bool "a" / endchoice / config B / bool / default A / config X / bool "x"
abbrev pub tree_shown_if : Tree
tree_shown_if = record {
  symbols = record (plain (codes "A") Boolean (shown (name (codes "X")) ∷ []) []) { direct = shown (name (codes "X")) ∷ []; choice = Some 0 } ∷ plain
      (codes "B") Boolean [] (otherwise (name (codes "A")) ∷ []) ∷ plain (codes "X") Boolean (always ∷ []) [] ∷ [];
  choices = record { file = 0; line = 1; members = 0 ∷ []; prompt = Some (name (codes "X")); defaults = []; optional = false } ∷ [];
  entries = choice_begins 0 ∷ definition 0 ∷ definition 1 ∷ definition 2 ∷ [];
  units = of_choice 0 ∷ of_symbol 1 ∷ of_symbol 2 ∷ [];
  language = Strict;
}

-- the tree of: config S / bool "s" / select T / config T / tristate / depends on NO
abbrev pub tree_select : Tree
tree_select = two_symbols (plain (codes "S") Boolean (always ∷ []) [])
    (record (plain (codes "T") Tristate [] []) { selectors = record { by = 0; condition = always } ∷ []; direct = name (codes "NO") ∷ [] })

-- the tree of: config MODULES / bool "mods" / default y / config FOO / tristate "foo" / imply BAZ / config BAR / tristate "bar" /
-- config BAZ / tristate "baz" / depends on BAR
abbrev pub tree_imply : Tree
tree_imply = record {
  symbols =
      plain (codes "MODULES") Boolean (always ∷ []) (otherwise always ∷ []) ∷ plain (codes "FOO") Tristate (always ∷ []) [] ∷ plain (codes "BAR") Tristate
      (always ∷ []) []
      ∷ record (plain (codes "BAZ") Tristate (name (codes "BAR") ∷ []) [])
      { impliers = record { by = 1; condition = always } ∷ []; direct = name (codes "BAR") ∷ [] } ∷ [];
  choices = [];
  entries = definition 0 ∷ definition 1 ∷ definition 2 ∷ definition 3 ∷ [];
  units = of_symbol 0 ∷ of_symbol 1 ∷ of_symbol 2 ∷ of_symbol 3 ∷ [];
  language = Strict;
}

-- the tree of: config A / bool "a" / config B / bool / default A / config C / bool "c" / depends on B
abbrev pub tree_chain : Tree
tree_chain = three_symbols (plain (codes "A") Boolean (always ∷ []) []) (plain (codes "B") Boolean [] (otherwise (name (codes "A")) ∷ []))
    (record (plain (codes "C") Boolean (name (codes "B") ∷ []) []) { direct = name (codes "B") ∷ [] })

-- the tree of: menu "hid" / visible if NO / config A / bool "a" / default y / endmenu
abbrev pub tree_hidden : Tree
tree_hidden = record {
  symbols = plain (codes "A") Boolean (name (codes "NO") ∷ []) (otherwise always ∷ []) ∷ [];
  choices = [];
  entries = menu_begins (codes "hid") always (name (codes "NO")) ∷ definition 0 ∷ menu_ends (codes "hid") always (name (codes "NO")) ∷ [];
  units = of_symbol 0 ∷ [];
  language = Strict;
}

-- the tree of: config A / bool "a" / menu "Net" / config B / bool "b" / endmenu / config C / bool "c" / comment "done"
abbrev pub tree_menu : Tree
tree_menu = record {
  symbols = plain (codes "A") Boolean (always ∷ []) [] ∷ plain (codes "B") Boolean (always ∷ []) [] ∷ plain (codes "C") Boolean (always ∷ []) [] ∷ [];
  choices = [];
  entries = definition 0 ∷ menu_begins (codes "Net") always always ∷ definition 1 ∷ menu_ends (codes "Net") always always ∷ definition 2 ∷ comment
      (codes "done") always ∷ [];
  units = of_symbol 0 ∷ of_symbol 1 ∷ of_symbol 2 ∷ [];
  language = Strict;
}

-- Expressions as plain trees, and their values ("Menu dependencies").
use Rattle.std.specs.Prelude.{ℕ, Bool, true, false, ◌&&◌, List, [], ◌∷◌, Option, Some, None, ℤ, pos, if◌then◌else◌}
use Rattle.std.specs.declared.cmp.Ordering.{Ordering}
use Rattle.std.specs.declared.cmp.Ordering.TheVariants.{Less as less, Equal as equal, Greater as greater}
use Rattle.std.specs.Ordering.{nat_cmp, int_cmp}
use Rattle.std.specs.Cmp.Lexicographic.{slice_cmp}
use Rattle.kc_value.specs.declared.tri.Tri.{Tri}
use Rattle.kc_value.specs.declared.tri.Tri.TheVariants.{N, M, Y}
use Rattle.kc_value.specs.declared.value.Kind.{Kind}
use Rattle.kc_value.specs.declared.value.Kind.TheVariants.{Text, Int, Hex}
use Rattle.kc_value.specs.Kinds.{is_tri_kind, is_text_kind}
use Rattle.kc_value.specs.Tri.{rank, tri_and, tri_or, tri_not, y_for_m, letter}
use Rattle.kc_value.specs.Number.{int_text, hex_text, loose_number}
use Rattle.kc_tokens.specs.declared.token.Relop.{Relop}
use Rattle.kc_tokens.specs.declared.token.Relop.TheVariants.{Equal, NotEqual, Less, Greater, LessEqual, GreaterEqual}

-- an operand: one of the three constants, a name, or another quoted text ("Menu dependencies")
pub data Operand : Type 0 where
  constant : Tri → Operand
  named : List ℕ → Operand
  quoted : List ℕ → Operand

-- an expression ("Menu dependencies", its grammar); `shown`, which no line can spell, is `y` where its part isn't `n`
pub data Expr : Type 0 where
  alone : Operand → Expr
  related : Relop → Operand → Operand → Expr
  negated : Expr → Expr
  both : Expr → Expr → Expr
  either : Expr → Expr → Expr
  shown : Expr → Expr

-- the value of a symbol: its type, its tristate value and its text
pub record SymbolValue : Type 0 where
  pub kind : Kind
  pub tri : Tri
  pub text : List ℕ

-- the value of each name; None where no symbol of that name is defined
abbrev pub Environment : Type 0
Environment = List ℕ → Option SymbolValue

-- the value of a symbol as an expression: its tristate value if it is a bool or tristate, else `n`
abbrev pub tri_of_kind : Kind → Tri → Tri
tri_of_kind k t = if is_tri_kind k then t else N

-- the value of a name as an expression, by its symbol's value; `n` where no such symbol is defined
abbrev pub symbol_tri : Option SymbolValue → Tri
symbol_tri None = N
symbol_tri (Some s) = tri_of_kind s.kind s.tri

-- the value of an operand as an expression: a constant, or the value of a named bool or tristate, else `n` ("Menu dependencies")
abbrev pub operand_value : Environment → Operand → Tri
operand_value names (constant t) = t
operand_value names (named x) = symbol_tri (names x)
operand_value names (quoted x) = N

-- the text of a name as an operand: its symbol's text, or the name itself where no such symbol is defined
abbrev pub symbol_text : List ℕ → Option SymbolValue → List ℕ
symbol_text name None = name
symbol_text name (Some s) = s.text

-- the text of an operand, by which it is compared
abbrev pub operand_text : Environment → Operand → List ℕ
operand_text names (constant t) = letter t
operand_text names (named x) = symbol_text x (names x)
operand_text names (quoted x) = x

-- whether a name is string-typed as an operand: its symbol is a string
abbrev pub is_string_symbol : Option SymbolValue → Bool
is_string_symbol None = false
is_string_symbol (Some s) = is_text_kind s.kind

-- whether an operand is string-typed: a name of a string, or a quoted text other than the constants
abbrev pub is_string : Environment → Operand → Bool
is_string names (constant t) = false
is_string names (named x) = is_string_symbol (names x)
is_string names (quoted x) = true

-- the number of a symbol, by its type, its tristate value and its text; None if it has none
abbrev pub number_of_kind : Kind → Tri → List ℕ → Option ℤ
number_of_kind Text t text = loose_number text
number_of_kind Int t text = int_text text
number_of_kind Hex t text = hex_text text
number_of_kind k t text = Some (pos (rank t))

-- the number of a name as an operand, if it has one: its symbol's, or that of the name itself where no such symbol is defined
abbrev pub symbol_number : List ℕ → Option SymbolValue → Option ℤ
symbol_number name None = loose_number name
symbol_number name (Some s) = number_of_kind s.kind s.tri s.text

-- the number of an operand, if it has one; constants are 0, 1 and 2
abbrev pub operand_number : Environment → Operand → Option ℤ
operand_number names (constant t) = Some (pos (rank t))
operand_number names (named x) = symbol_number x (names x)
operand_number names (quoted x) = loose_number x

-- how two operands compare: by their numbers where both have one, else as their texts do
abbrev pub compared_by : Option ℤ → Option ℤ → Ordering → Ordering
compared_by (Some m) (Some n) texts = int_cmp m n
compared_by m n texts = texts

-- how two operands compare: two string-typed ones by their bytes, others by their numbers where both have one, else by bytes
abbrev pub compared : Environment → Operand → Operand → Ordering
compared names a b =
    let texts = slice_cmp nat_cmp (operand_text names a) (operand_text names b) in
    if is_string names a && is_string names b then texts else compared_by (operand_number names a) (operand_number names b) texts

-- whether a relation holds between two operands, by how they compare
abbrev pub relation_holds : Relop → Ordering → Bool
relation_holds Equal equal = true
relation_holds NotEqual less = true
relation_holds NotEqual greater = true
relation_holds Less less = true
relation_holds Greater greater = true
relation_holds LessEqual less = true
relation_holds LessEqual equal = true
relation_holds GreaterEqual equal = true
relation_holds GreaterEqual greater = true
relation_holds _ _ = false

-- the value of an expression, given the values of symbols (kconfig-language.rst, "Menu dependencies")
abbrev pub value : Environment → Expr → Tri
value names (alone a) = operand_value names a
value names (related op a b) = if relation_holds op (compared names a b) then Y else N
value names (negated e) = tri_not (value names e)
value names (both a b) = tri_and (value names a) (value names b)
value names (either a b) = tri_or (value names a) (value names b)
value names (shown e) = y_for_m (value names e)

-- the name `MODULES`: in a condition a constant `m` that is no operand of a relation means `m && MODULES`
abbrev pub modules : List ℕ
modules = 77 ∷ 79 ∷ 68 ∷ 85 ∷ 76 ∷ 69 ∷ 83 ∷ []

-- an operand alone, as a condition: the constant `m` means `m && MODULES`
abbrev pub conditional_operand : Operand → Expr
conditional_operand (constant M) = both (alone (constant M)) (alone (named modules))
conditional_operand a = alone a

-- an expression as a condition ("Menu dependencies", `m` means `m && MODULES`)
abbrev pub conditional : Expr → Expr
conditional (alone a) = conditional_operand a
conditional (related op a b) = related op a b
conditional (negated e) = negated (conditional e)
conditional (both a b) = both (conditional a) (conditional b)
conditional (either a b) = either (conditional a) (conditional b)
conditional (shown e) = shown (conditional e)

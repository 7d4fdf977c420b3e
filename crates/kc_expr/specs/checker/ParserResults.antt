-- The results of the parser's functions.
use Rattle.std.specs.Prelude.{◌≡◌, ℕ, ◌≤◌, Bool, true, false, ◌&&◌, if◌then◌else◌, List, [], ◌∷◌, length, drop, Option, Some, None, Result, Ok, Err, IfOk, ◌⊎◌}
use Rattle.kc_value.specs.declared.tri.Tri.TheVariants.{N, M, Y}
use Rattle.kc_tokens.specs.declared.fault.ExprFault.{ExprFault}
use Rattle.kc_tokens.specs.declared.fault.ExprKind.{ExprKind}
use Rattle.kc_tokens.specs.declared.fault.ExprKind.TheVariants.{Malformed}
use Rattle.kc_tokens.specs.MemoryFaults.{IsOutOfMemory}
use Rattle.kc_expr.specs.declared.node.Connective.{Connective}
use Rattle.kc_expr.specs.declared.node.Connective.TheVariants.{And as Ands, Or as Ors}
use Rattle.kc_expr.specs.declared.node.Leaf.{Leaf}
use Rattle.kc_expr.specs.declared.node.Leaf.TheVariants.{Constant, Name, Quoted as Text}
use Rattle.kc_expr.specs.declared.node_store.NodeStore.{NodeStore}
use Rattle.kc_expr.specs.declared.parse.Input.{Input}
use Rattle.kc_tokens.specs.declared.token.Relop.{Relop}
use Rattle.kc_tokens.specs.declared.token.TokenKind.{TokenKind}
use Rattle.kc_tokens.specs.declared.token.TokenKind.TheVariants.{Word, Quoted, Relation, Not, And, Or, Open, Close}
use Rattle.kc_expr.specs.between.Arena.{Represents}
use Rattle.kc_expr.specs.Expr.{Expr, Operand, modules}
use Rattle.kc_expr.specs.ExpressionNames.{operand_names}
use Rattle.kc_expr.specs.checker.Nodes.{operand_of}
use Rattle.kc_expr.specs.Grammar.{Read, after_operand, operand_of_lexeme, read_factor, read_ands, read_ors, read_to_end, fault_of}
use Rattle.kc_expr.specs.checker.Conditions.{as_condition}
use Rattle.kc_expr.specs.checker.Store.{Extends, HasNamesOf, IsSound, exprs_in}
use Rattle.kc_tokens.specs.Token.{Lexeme, lexemes_of}

-- the kind of the first token, if there is a token
abbrev pub first_kind : List Lexeme → Option TokenKind
first_kind [] = None
first_kind (t ∷ ts) = Some t.kind

-- the operand that the first token is, if it is one
abbrev pub first_operand : List Lexeme → Option Operand
first_operand [] = None
first_operand (t ∷ ts) = operand_of_lexeme t

-- the relation that a token of a kind is, if it is one
abbrev pub relation_of : TokenKind → Option Relop
relation_of (Relation op) = Some op
relation_of Word = None
relation_of Quoted = None
relation_of Not = None
relation_of And = None
relation_of Or = None
relation_of Open = None
relation_of Close = None

-- the relation that the first token is, if it is one
abbrev pub first_relation : List Lexeme → Option Relop
first_relation [] = None
first_relation (t ∷ ts) = relation_of t.kind

-- reads what may follow an operand, if the token is one; otherwise Malformed at that token
abbrev pub operand_else : Option Operand → Lexeme → List Lexeme → Read
operand_else (Some a) t ts = after_operand a ts
operand_else None t ts = Err (Malformed, t ∷ ts)

-- reads an operand, or a relation of two, at the front of tokens
unfoldable pub operand_read : List Lexeme → Read
operand_read [] = Err (Malformed, [])
operand_read (t ∷ ts) = operand_else (operand_of_lexeme t) t ts

-- reads a factor at the front of tokens, with at most this many `!` and parentheses around a symbol
unfoldable pub factor_read : ℕ → List Lexeme → Read
factor_read d ts = read_factor d ts

-- the kind of the token that a connective is
abbrev pub connective_kind : Connective → TokenKind
connective_kind Ands = And
connective_kind Ors = Or

-- reads parts joined by a connective at the front of tokens, with at most this many `!` and parentheses around a symbol
unfoldable pub joined_read : Connective → ℕ → List Lexeme → Read
joined_read Ands d ts = read_ands (read_factor d) ts
joined_read Ors d ts = read_ors (read_factor d) ts

-- reads a part of what a connective joins: a factor by `&&`, and by `||` factors joined by `&&`
abbrev pub part_read : Connective → ℕ → List Lexeme → Read
part_read Ands = factor_read
part_read Ors = joined_read Ands

-- the expression that all tokens form, with at most this many `!` and parentheses around a symbol, or their fault
unfoldable pub read_all_tokens : ℕ → List Lexeme → Result Expr (ExprKind × List Lexeme)
read_all_tokens d ts = read_to_end (read_ors (read_factor d) ts)

-- an expression was read from an index of the tokens on, a node represents it as a condition or as it is, and `next` is the index
-- after its last token
pub record IsParsed (s : NodeStore) (all : List Lexeme) (condition : Bool) (at : ℕ) (read : Read) (id next : ℕ) : Type 0 where
  pub expr : Expr
  pub reads : read ≡ Ok (expr, drop next all)
  pub forward : at ≤ next
  pub within : next ≤ length all
  pub represents : Represents (exprs_in s) id (as_condition condition expr)

-- a fault that the parser returns is out of memory, or the fault that reading the tokens gives
abbrev pub IsExpressionRefused : List Lexeme → Read → ExprFault → Type 0
IsExpressionRefused all read e = IsOutOfMemory e ⊎ ((f : ExprKind × List Lexeme) × (read ≡ Err f) × (e ≡ fault_of all f))

-- what the parser returns is right: a node of the expression that was read and the index after its last token, or a fault
abbrev pub Parses : NodeStore → List Lexeme → Bool → ℕ → Read → Result (ℕ × ℕ) ExprFault → Type 0
Parses s all condition at read (Ok r) = IsParsed s all condition at read r.0 r.1
Parses s all condition at read (Err e) = IsExpressionRefused all read e

-- what a function of the parser does: it returns what is right for its reader of tokens, the store stays sound and keeps what it
-- held, and the names of a node that was read are appended
pub record IsRead (old new : NodeStore) (input : Input) (at : ℕ) (reader : ℕ → List Lexeme → Read) (result : Result (ℕ × ℕ) ExprFault) : Type 0 where
  pub sound : IsSound new
  pub extends : Extends old new
  pub names : IfOk result (λ r. HasNamesOf old new r.0)
  pub parses : Parses new (lexemes_of input.tokens.now) input.condition at (reader input.depth (drop at (lexemes_of input.tokens.now))) result

-- whether a leaf is the constant `m`
abbrev pub is_m : Leaf → Bool
is_m (Constant N) = false
is_m (Constant M) = true
is_m (Constant Y) = false
is_m (Name i) = false
is_m (Text i) = false

-- all tokens were read as an expression, and a node represents it as a condition or as it is
pub record IsParsedToEnd (s : NodeStore) (condition : Bool) (read : Result Expr (ExprKind × List Lexeme)) (id : ℕ) : Type 0 where
  pub expr : Expr
  pub reads : read ≡ Ok expr
  pub represents : Represents (exprs_in s) id (as_condition condition expr)

-- a fault of the parser that reads all tokens is out of memory, or the fault that reading the tokens to the end gives
abbrev pub IsRefusedToEnd : List Lexeme → Result Expr (ExprKind × List Lexeme) → ExprFault → Type 0
IsRefusedToEnd all read e = IsOutOfMemory e ⊎ ((f : ExprKind × List Lexeme) × (read ≡ Err f) × (e ≡ fault_of all f))

-- a fault that the parser returns is the fault that reading the tokens gives
abbrev pub MeetsFault : List Lexeme → Read → ExprFault → Type 0
MeetsFault all read e = (f : ExprKind × List Lexeme) × (read ≡ Err f) × (e ≡ fault_of all f)

-- the name of an operand, if there is an operand and it is a name, as a list of at most one
abbrev pub names_of_leaf : List (List ℕ) → List (List ℕ) → Option Leaf → List (List ℕ)
names_of_leaf names texts None = []
names_of_leaf names texts (Some leaf) = operand_names (operand_of names texts leaf)

-- the name `MODULES`, which the constant `m` adds in a condition, as a list of at most one
abbrev pub names_of_m : Bool → Leaf → List (List ℕ)
names_of_m condition leaf = if condition && is_m leaf then modules ∷ [] else []

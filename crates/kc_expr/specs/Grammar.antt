-- The grammar of expressions, over tokens ("Menu dependencies").
use Rattle.std.specs.Prelude.{◌≡◌, ℕ, zero, suc, ◌-◌, Bool, true, false, ◌&&◌, ◌||◌, ◌==◌, List, [], ◌∷◌, ◌++◌, length, take, drop, slice_index, nat_le, Option, Some, None, Result, Ok, Err, bytes_eq, if◌then◌else◌}
use Rattle.kc_value.specs.declared.limits.TheConstants.{MAX_EXPR_DEPTH}
use Rattle.kc_value.specs.declared.tri.Tri.{Tri}
use Rattle.kc_value.specs.declared.tri.Tri.TheVariants.{N, M, Y}
use Rattle.kc_tokens.specs.declared.fault.ExprFault.{ExprFault}
use Rattle.kc_tokens.specs.declared.fault.ExprKind.{ExprKind}
use Rattle.kc_tokens.specs.declared.fault.ExprKind.TheVariants.{Malformed, TooDeep}
use Rattle.kc_tokens.specs.declared.token.TokenKind.{TokenKind}
use Rattle.kc_tokens.specs.declared.token.TokenKind.TheVariants.{Word, Quoted, Relation, Not, And, Or, Open, Close}
use Rattle.kc_tokens.specs.QuotedTexts.{quoted_text}
use Rattle.kc_tokens.specs.Token.{Lexeme}
use Rattle.kc_expr.specs.Expr.{Expr, Operand, constant, named, quoted, alone, related, negated, both, either}

-- the constant, `n`, `m` or `y`, that a text is, if it is one
abbrev pub letter_value : List ℕ → Option Tri
letter_value text =
    if bytes_eq text (110 ∷ []) then Some N
    else if bytes_eq text (109 ∷ []) then Some M
    else if bytes_eq text (121 ∷ []) then Some Y
    else None

-- a constant as an operand if there is one, else another operand
abbrev pub constant_else : Option Tri → Operand → Operand
constant_else (Some t) other = constant t
constant_else None other = other

-- the operand of a text: a constant for `n`, `m` and `y`, quoted or bare, and what the function gives for any other text
abbrev pub constant_or : (List ℕ → Operand) → List ℕ → Operand
constant_or other text = constant_else (letter_value text) (other text)

-- the operand that a token of a kind is, by its text; None if it is no word and no quoted text
abbrev pub operand_of_kind : TokenKind → List ℕ → Option Operand
operand_of_kind Word text = Some (constant_or named text)
operand_of_kind Quoted text = Some (constant_or quoted (quoted_text text))
operand_of_kind _ text = None

-- the operand that a token is, if it is a word or a quoted text
abbrev pub operand_of_lexeme : Lexeme → Option Operand
operand_of_lexeme t = operand_of_kind t.kind t.text

-- the levels of the grammar: `||` binds loosest, then `&&`, then a factor ("Menu dependencies")
pub data Level : Type 0 where
  ors : Level
  ands : Level
  factor : Level

-- Tokens form an expression of a level, with at most this many `!` and parentheses around a symbol. `&&` and `||` associate to
-- the left.
pub data IsExpr : Level → ℕ → List Lexeme → Expr → Type 0 where
  one_and : {d : ℕ} {ts : List Lexeme} {e : Expr} → IsExpr ands d ts e → IsExpr ors d ts e
  more_ors : {d : ℕ} {all ts us : List Lexeme} (o : Lexeme) {a b : Expr} → IsExpr ors d ts a → o.kind ≡ Or → IsExpr ands d us b → all ≡ ts ++ o ∷ us → IsExpr ors d all (either a b)
  one_factor : {d : ℕ} {ts : List Lexeme} {e : Expr} → IsExpr factor d ts e → IsExpr ands d ts e
  more_ands : {d : ℕ} {all ts us : List Lexeme} (o : Lexeme) {a b : Expr} → IsExpr ands d ts a → o.kind ≡ And → IsExpr factor d us b → all ≡ ts ++ o ∷ us → IsExpr ands d all (both a b)
  operand : {d : ℕ} {all : List Lexeme} (t : Lexeme) {a : Operand} → operand_of_lexeme t ≡ Some a → all ≡ t ∷ [] → IsExpr factor d all (alone a)
  relation : {d : ℕ} {all : List Lexeme} (t r u : Lexeme) {a b : Operand} (op : _) → operand_of_lexeme t ≡ Some a → r.kind ≡ Relation op → operand_of_lexeme u ≡ Some b → all ≡ t ∷ r ∷ u ∷ [] → IsExpr factor d all (related op a b)
  negation : {d : ℕ} {all ts : List Lexeme} (t : Lexeme) {e : Expr} → t.kind ≡ Not → IsExpr factor d ts e → all ≡ t ∷ ts → IsExpr factor (suc d) all (negated e)
  parentheses : {d : ℕ} {all ts : List Lexeme} (o c : Lexeme) {e : Expr} → o.kind ≡ Open → IsExpr ors d ts e → c.kind ≡ Close → all ≡ o ∷ (ts ++ c ∷ []) → IsExpr factor (suc d) all e

-- whether a token is a word or a quoted text; an expression ends before one that directly follows an operand or a `)`
abbrev pub is_operand_kind : TokenKind → Bool
is_operand_kind Word = true
is_operand_kind Quoted = true
is_operand_kind _ = false

-- whether a token is a closing parenthesis
abbrev pub is_close : TokenKind → Bool
is_close Close = true
is_close _ = false

-- the tokens of the expression at the front of tokens: up to the first word or quoted text that directly follows an operand or a
-- `)`
abbrev pub extent : List Lexeme → List Lexeme
extent [] = []
extent (t ∷ []) = t ∷ []
extent (t ∷ u ∷ ts) = if (is_operand_kind t.kind || is_close t.kind) && is_operand_kind u.kind then t ∷ [] else t ∷ extent (u ∷ ts)

-- the place in the line of the byte after the last token; 0 if there is no token
abbrev pub end_of : List Lexeme → ℕ
end_of [] = 0
end_of (t ∷ []) = t.stop
end_of (t ∷ u ∷ ts) = end_of (u ∷ ts)

-- a fault with its place in the line: that of the first remaining token, or the end of all tokens if none remains
abbrev pub fault_of : List Lexeme → ExprKind × List Lexeme → ExprFault
fault_of all (kind, []) = record { offset = end_of all; kind = kind }
fault_of all (kind, t ∷ ts) = record { offset = t.start; kind = kind }

-- The functions from here on compute what the grammar and the first fault say, by the laws `reading_is_the_grammar` and
-- `reading_finds_the_first_fault`.

-- The result of a parser: an expression and the remaining tokens, or a fault and the tokens from its place on.
abbrev pub Read : Type 0
Read = Result (Expr × List Lexeme) (ExprKind × List Lexeme)

-- the result of a parser that continues after an expression was read; a fault is kept
abbrev pub on_read : Read → (Expr × List Lexeme → Read) → Read
on_read (Ok r) f = f r
on_read (Err e) f = Err e

-- the result of a parser past the limit of depth: after any `!` and `(`, a symbol is TooDeep, any other token or the end
-- Malformed
abbrev pub past_depth_limit : List Lexeme → Read
past_depth_limit [] = Err (Malformed, [])
past_depth_limit (t ∷ ts) = elim t.kind [
  | Not ↦ past_depth_limit ts
  | Open ↦ past_depth_limit ts
  | Word ↦ Err (TooDeep, t ∷ ts)
  | Quoted ↦ Err (TooDeep, t ∷ ts)
  | _ ↦ Err (Malformed, t ∷ ts)
]

-- reads the second operand of a relation, and gives the expression that the function makes of it
abbrev pub right_operand : (Operand → Expr) → List Lexeme → Read
right_operand f [] = Err (Malformed, [])
right_operand f (t ∷ ts) = elim (operand_of_lexeme t) [ Some b ↦ Ok (f b, ts) | None ↦ Err (Malformed, t ∷ ts) ]

-- reads what may follow an operand: the operator and the second operand of a relation
abbrev pub after_operand : Operand → List Lexeme → Read
after_operand a [] = Ok (alone a, [])
after_operand a (t ∷ ts) = elim t.kind [ Relation op ↦ right_operand (related op a) ts | _ ↦ Ok (alone a, t ∷ ts) ]

-- whether a token is `&&`
abbrev pub is_and : TokenKind → Bool
is_and And = true
is_and _ = false

-- whether a token is `||`
abbrev pub is_or : TokenKind → Bool
is_or Or = true
is_or _ = false

-- reads the further parts of a chain, each after an operator of the tested kind, and joins them from the left; the number bounds
-- how many there are
abbrev pub chain : (TokenKind → Bool) → (Expr → Expr → Expr) → (List Lexeme → Read) → ℕ → Expr → List Lexeme → Read
chain is_joint joined part zero a ts = Ok (a, ts)
chain is_joint joined part (suc n) a [] = Ok (a, [])
chain is_joint joined part (suc n) a (t ∷ ts) = elim (is_joint t.kind) [
  | true ↦ on_read (part ts) (λ r. chain is_joint joined part n (joined a r.0) r.1)
  | false ↦ Ok (a, t ∷ ts)
]

-- reads factors joined by `&&`, by a reader of factors
abbrev pub read_ands : (List Lexeme → Read) → List Lexeme → Read
read_ands part ts = on_read (part ts) (λ r. chain is_and both part (length ts) r.0 r.1)

-- reads conjunctions joined by `||`, by a reader of factors
abbrev pub read_ors : (List Lexeme → Read) → List Lexeme → Read
read_ors part ts = on_read (read_ands part ts) (λ r. chain is_or either (read_ands part) (length ts) r.0 r.1)

-- reads the `)` after an expression in parentheses; Malformed where there is none
abbrev pub closed : Expr × List Lexeme → Read
closed r = elim r.1 [ [] ↦ Err (Malformed, []) | t ∷ ts ↦ (if is_close t.kind then Ok (r.0, ts) else Err (Malformed, t ∷ ts)) ]

-- reads a factor: an operand or a relation, or what `after_not` and `after_open` read after a `!` and after a `(`
abbrev pub factor_of : (after_not after_open : List Lexeme → Read) → List Lexeme → Read
factor_of after_not after_open [] = Err (Malformed, [])
factor_of after_not after_open (t ∷ ts) = elim t.kind [
  | Word ↦ after_operand (constant_or named t.text) ts
  | Quoted ↦ after_operand (constant_or quoted (quoted_text t.text)) ts
  | Not ↦ after_not ts
  | Open ↦ after_open ts
  | _ ↦ Err (Malformed, t ∷ ts)
]

-- reads a factor with at most this many `!` and parentheses around a symbol
abbrev pub read_factor : ℕ → List Lexeme → Read
read_factor zero ts = factor_of past_depth_limit past_depth_limit ts
read_factor (suc d) ts = factor_of (λ us. on_read (read_factor d us) (λ r. Ok (negated r.0, r.1))) (λ us. on_read (read_ors (read_factor d) us) closed) ts

-- the expression that a parser read, if no token remains; else its fault, or Malformed at the first remaining token
abbrev pub read_to_end : Read → Result Expr (ExprKind × List Lexeme)
read_to_end (Err e) = Err e
read_to_end (Ok r) = elim r.1 [ [] ↦ Ok r.0 | t ∷ ts ↦ Err (Malformed, t ∷ ts) ]

-- the expression that all tokens form, within the limit of depth, or their first fault and the tokens from its place on
unfoldable pub read_expr : List Lexeme → Result Expr (ExprKind × List Lexeme)
read_expr ts = read_to_end (read_ors (read_factor MAX_EXPR_DEPTH) ts)

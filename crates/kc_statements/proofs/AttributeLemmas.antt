-- Types and defaults, by their parts.
use Rattle.kc_statements.proofs.Common.{◌≡◌, ◌+◌, ◌≤◌, ◌<◌, Bool, true, false, ◌==◌, ◌||◌, ◌&&◌, cond, List, [], ◌∷◌, length, drop, refl, ap, ◌∙◌, arith, Result, Ok, Err, Lexeme, lexemes_of, ExprKind, Expr, extent, is_operand_kind, TreeKind, ParsedExpr, prompt_line, type_line, default_line}
use Rattle.kc_statements.proofs.Common.{optional_if, kind_of_fault, ◌>>=◌, Statement, Attribute, DefaultAttribute, attribute, typed_prompt}
use Rattle.kc_value.specs.declared.value.Kind.{Kind}
use Rattle.kc_tokens.specs.declared.token.Token.{Token as CodeToken}
use Rattle.kc_expr.specs.Grammar.{read_expr, is_close}
use Rattle.kc_statements.proofs.FormLemmas.{stepped}

pub type_is : (k : Kind) (ts : List CodeToken) → 0 < length ts → type_line k (lexemes_of ts) ≡ prompt_line (typed_prompt k) (lexemes_of ts)
type_is k [] l = absurd (omega (arith, l))
type_is k (t ∷ ts) l = refl

-- defaults: the expression, and then its `if`
default_then : (DefaultAttribute → Attribute) → List Lexeme → ParsedExpr → Result Statement TreeKind
default_then f ts t = optional_if t.rest >>= λ c. Ok (attribute (f (record { value = t.expr; single = t.single; condition = c; from_environment = false })))

default_by : (DefaultAttribute → Attribute) → List Lexeme → Result Expr (ExprKind × List Lexeme) → Result Statement TreeKind
default_by f ts (Ok e) = default_then f ts (record { expr = e; single = length (extent ts) == 1; rest = drop (length (extent ts)) ts })
default_by f ts (Err x) = Err (kind_of_fault x.0)

default_reading : (f : DefaultAttribute → Attribute) (ts : List Lexeme) (r : Result Expr (ExprKind × List Lexeme))
    → (elim r [ Ok e ↦ Ok (record { expr = e; single = length (extent ts) == 1; rest = drop (length (extent ts)) ts }) | Err x ↦ Err (kind_of_fault x.0) ] >>=
    default_then f ts) ≡ default_by f ts r
unfolding default_by
default_reading f ts (Ok e) = refl
default_reading f ts (Err x) = refl

pub default_is : (f : DefaultAttribute → Attribute) (ts : List Lexeme) (e : Expr) → read_expr (extent ts) ≡ Ok e
    → default_line f ts ≡ stepped (λ c. attribute (f (record { value = e; single = length (extent ts) == 1; condition = c; from_environment = false })))
    (optional_if (drop (length (extent ts)) ts))
unfolding default_by default_then
default_is f ts e r = default_reading f ts (read_expr (extent ts)) ∙ ap (default_by f ts) r

pub default_unread : (f : DefaultAttribute → Attribute) (ts : List Lexeme) (x : ExprKind × List Lexeme) → read_expr (extent ts) ≡ Err x
    → default_line f ts ≡ Err (kind_of_fault x.0)
unfolding default_by default_then
default_unread f ts x r = default_reading f ts (read_expr (extent ts)) ∙ ap (default_by f ts) r

-- an expression reaches no further than the tokens
reaches_by : (b : Bool) (t : Lexeme) (ts us : List Lexeme) → length us ≤ length ts → length (cond b (t ∷ []) (t ∷ us)) ≤ length ts + 1
reaches_by true t ts us h = omega arith
reaches_by false t ts us h = omega arith

pub extent_within : (ts : List Lexeme) → length (extent ts) ≤ length ts
extent_within [] = omega arith
extent_within (t ∷ []) = omega arith
extent_within (t ∷ u ∷ ts) =
    let r = reaches_by ((is_operand_kind t.kind || is_close t.kind) && is_operand_kind u.kind) t (u ∷ ts) (extent (u ∷ ts)) (extent_within (u ∷ ts)) in
    omega arith

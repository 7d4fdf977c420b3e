-- Values of defaults, and operands.
use Rattle.kc_statements.proofs.Common.{◌≡◌, ℕ, ◌+◌, true, false, ◌==◌, List, [], ◌∷◌, length, drop, refl, ap, sym, ◌∙◌, arith, Option, Some, Result, Ok, Err, false≢true, Exprs, node_expr, Grows, Expr, Operand, alone, quoted_text, extent, operand_of_lexeme, operand_of_kind, is_operand_kind, Lexeme}
use Rattle.kc_statements.proofs.Common.{ExprKind, TokenKind, Word, Quoted, Relation, Not, And, Or, Open, Close, TreeKind, default_line, optional_if, Statement, Attribute, DefaultAttribute, attribute, if_in, operand_or_n, operand_of_expr, default_in, OperandNodeExists}
use Rattle.kc_expr.specs.between.Arena.{Represents}
use Rattle.kc_expr.specs.Expr.{named, quoted}
use Rattle.kc_expr.specs.Grammar.{read_expr, constant_or}
use Rattle.kc_statements.proofs.AttributeLemmas.{default_is}
use Rattle.kc_statements.proofs.FormLemmas.{stepped}
use Rattle.kc_statements.proofs.GrownArenas.{node_same}

-- a word or a quoted text alone is read as its operand
operand_by : (k : TokenKind) (s e : ℕ) (text : List ℕ) → is_operand_kind k ≡ true
    → (a : Operand) × (operand_of_kind k text ≡ Some a) × (read_expr (record { kind = k; start = s; stop = e; text = text } ∷ []) ≡ Ok (alone a))
unfolding read_expr
operand_by Word s e text h = (constant_or named text, refl, refl)
operand_by Quoted s e text h = (constant_or quoted (quoted_text text), refl, refl)
operand_by (Relation op) s e text h = absurd (false≢true h)
operand_by Not s e text h = absurd (false≢true h)
operand_by And s e text h = absurd (false≢true h)
operand_by Or s e text h = absurd (false≢true h)
operand_by Open s e text h = absurd (false≢true h)
operand_by Close s e text h = absurd (false≢true h)

-- what is read
abbrev read_as : Expr → Result Expr (ExprKind × List Lexeme)
read_as e = Ok e

read_same : (x y : Expr) → read_as x ≡ read_as y → x ≡ y
read_same x y q = cc

pub operand_reported : (e : Exprs) (id : ℕ) (p : Lexeme) (x : Expr) → is_operand_kind p.kind ≡ true → read_expr (p ∷ []) ≡ Ok x → Represents e id x
    → (operand_of_lexeme p ≡ Some (operand_or_n e id)) × OperandNodeExists e id
operand_reported e id p x h r s =
    let o = operand_by p.kind p.start p.stop p.text h in
    let is : node_expr e id ≡ alone o.0 = s.is ∙ read_same x (alone o.0) (sym r ∙ o.2) in
    let found : operand_or_n e id ≡ o.0 = ap operand_of_expr is in
    (o.1 ∙ ap Some (sym found), record { within = s.within; is = is ∙ ap alone (sym found) })

-- a default by its parts
valued_by : (DefaultAttribute → Attribute) → Expr → ℕ → Option Expr → Result Statement TreeKind
valued_by f v n c = Ok (attribute (f (record { value = v; single = n == 1; condition = c; from_environment = false })))

pub valued_reported : (mid new : Exprs) (f : DefaultAttribute → Attribute) (ps : List Lexeme) (id next : ℕ) (c : Option ℕ) (x : Expr) → Grows mid new
    → read_expr (extent ps) ≡ Ok x → Represents mid id x
    → next ≡ 0 + length (extent ps) → optional_if (drop next ps) ≡ Ok (if_in new c)
    → default_line f ps ≡ Ok (attribute (f (default_in new (record { value = id; single = next == 1; condition = c; from_environment = false }))))
unfolding valued_by
valued_reported mid new f ps id next c x g reads s end given =
    let n : next ≡ length (extent ps) = omega (arith, end) in
    let k : Option Expr → Statement = λ d. attribute (f (record { value = x; single = length (extent ps) == 1; condition = d; from_environment = false })) in
    default_is f ps x reads
    ∙ ap (stepped k) (ap (λ m. optional_if (drop m ps)) (sym n) ∙ given)
    ∙ ap (λ m. valued_by f x m (if_in new c)) (sym n)
    ∙ ap (λ v. valued_by f v next (if_in new c)) (sym (node_same mid new id g s.within ∙ s.is))

pub valued_refused : (f : DefaultAttribute → Attribute) (ps : List Lexeme) (next : ℕ) (x : Expr) (k : TreeKind) → read_expr (extent ps) ≡ Ok x
    → next ≡ 0 + length (extent ps) → optional_if (drop next ps) ≡ Err k
    → default_line f ps ≡ Err k
valued_refused f ps next x k reads end given =
    let n : next ≡ length (extent ps) = omega (arith, end) in
    let t : Option Expr → Statement = λ d. attribute (f (record { value = x; single = length (extent ps) == 1; condition = d; from_environment = false })) in
    default_is f ps x reads ∙ ap (stepped t) (ap (λ m. optional_if (drop m ps)) (sym n) ∙ given)

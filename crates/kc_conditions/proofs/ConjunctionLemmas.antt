-- Conjunctions with a conjunct appended.
use Rattle.kc_conditions.proofs.Common.{◌≡◌, ℕ, ◌<◌, List, [], ◌∷◌, ◌++◌, length, length-append, Option, Some, refl, ap, sym, subst, ◌∙◌, arith, Exprs, Represents, node_expr, Expr, conjunction_of, Conjoins, conjunct, append-nil}
use Rattle.kc_expr.specs.Expr.{both}
use Rattle.kc_tree_model.specs.Conditions.{conjunction_from}

all_from_more : (e : Expr) (es : List Expr) (f : Expr) → conjunction_from e (es ++ f ∷ []) ≡ both (conjunction_from e es) f
all_from_more e [] f = refl
all_from_more e (x ∷ xs) f = all_from_more (both e x) xs f

all_more : (es : List Expr) (f : Expr) → 0 < length es → conjunction_of (es ++ f ∷ []) ≡ both (conjunction_of es) f
all_more [] f h = absurd (omega arith)
all_more (e ∷ es) f h = all_from_more e es f

-- a number of the conjunction of `a` and `b` conjoins the conjuncts of `a` and, after them, `b`
pub joined : (old new : Exprs) (a b id : ℕ) (es : List Expr) → Represents new id (both (node_expr old a) (node_expr old b)) → Conjoins old (Some a) es
    → Conjoins new (Some id) (es ++ conjunct old (Some b))
joined old new a b id es s c = (
  omega (arith, length-append es (node_expr old b ∷ [])),
  record { within = s.within; is = s.is ∙ ap (λ e. both e (node_expr old b)) c.1.is ∙ sym (all_more es (node_expr old b) c.0) },
)

-- a conjunction is that of its conjuncts with none appended
pub nothing_more : (exprs : Exprs) (o : Option ℕ) (es : List Expr) → Conjoins exprs o es → Conjoins exprs o (es ++ [])
nothing_more exprs o es c = subst (Conjoins exprs o) (sym (append-nil es)) c

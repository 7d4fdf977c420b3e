-- How expressions are stored where a model keeps them: as the steps of a machine with a stack.
use Rattle.std.specs.Prelude.{◌≡◌, ℕ, zero, suc, List, [], ◌∷◌, ◌++◌, refl}
use Rattle.std.specs.Coded.{Coded, code_by, coded×, coded_ℕ, coded_list}
use Rattle.std.proofs.Common.{ap, ◌∙◌}
use Rattle.kc_value.specs.declared.tri.Tri.TheVariants.{N, M, Y}
use Rattle.kc_tokens.specs.declared.token.Relop.{Relop}
use Rattle.kc_tokens.specs.declared.token.Relop.TheVariants.{Equal, NotEqual, Less, Greater, LessEqual, GreaterEqual}
use Rattle.kc_expr.specs.Expr.{Operand, Expr, constant, named, quoted, alone, related, negated, both, either, shown}

-- an operand as it is stored: a number that says which constant or sort it is, and the bytes of a name or quoted text
abbrev pub Cell : Type 0
Cell = ℕ × List ℕ

-- a step of a machine that builds expressions on a stack: a number that says what the step does, and two stored operands, which
-- not every step uses
abbrev pub Step : Type 0
Step = ℕ × (Cell × Cell)

-- the stored operand in a place that a step does not use; the constant `n` is stored like it
abbrev pub none : Cell
none = (0, [])

-- an operand in its stored form
abbrev pub cell_of : Operand → Cell
cell_of (constant N) = (0, [])
cell_of (constant M) = (1, [])
cell_of (constant Y) = (2, [])
cell_of (named x) = (3, x)
cell_of (quoted x) = (4, x)

-- the operand that a stored one represents: a constant for 0, 1 and 2, a name for 3, a quoted text for 4 and more
abbrev pub operand_of : Cell → Operand
operand_of (zero, x) = constant N
operand_of (suc zero, x) = constant M
operand_of (suc (suc zero), x) = constant Y
operand_of (suc (suc (suc zero)), x) = named x
operand_of (suc (suc (suc (suc n))), x) = quoted x

-- an operand that was stored is read back as itself
abbrev pub operand_again : (a : Operand) → operand_of (cell_of a) ≡ a
operand_again (constant N) = refl
operand_again (constant M) = refl
operand_again (constant Y) = refl
operand_again (named x) = refl
operand_again (quoted x) = refl

-- the steps that put an expression on top of a stack
abbrev pub steps_of : Expr → List Step
steps_of (alone a) = (0, (cell_of a, none)) ∷ []
steps_of (negated e) = steps_of e ++ (1, (none, none)) ∷ []
steps_of (both a b) = steps_of a ++ steps_of b ++ (2, (none, none)) ∷ []
steps_of (either a b) = steps_of a ++ steps_of b ++ (3, (none, none)) ∷ []
steps_of (shown e) = steps_of e ++ (4, (none, none)) ∷ []
steps_of (related Equal a b) = (5, (cell_of a, cell_of b)) ∷ []
steps_of (related NotEqual a b) = (6, (cell_of a, cell_of b)) ∷ []
steps_of (related Less a b) = (7, (cell_of a, cell_of b)) ∷ []
steps_of (related Greater a b) = (8, (cell_of a, cell_of b)) ∷ []
steps_of (related LessEqual a b) = (9, (cell_of a, cell_of b)) ∷ []
steps_of (related GreaterEqual a b) = (10, (cell_of a, cell_of b)) ∷ []

-- a stack with a function applied to the expression on top; an empty stack stays empty
abbrev pub on_one : (Expr → Expr) → List Expr → List Expr
on_one f [] = []
on_one f (e ∷ es) = f e ∷ es

-- a stack with a function of its two top expressions, the lower one first, in their place; empty where it has no two
abbrev pub on_two : (Expr → Expr → Expr) → List Expr → List Expr
on_two f [] = []
on_two f (e ∷ []) = []
on_two f (b ∷ a ∷ es) = f a b ∷ es

-- the relation with a number: `=`, `!=`, `<`, `>` and `<=` have 0 to 4, and any greater number is `>=`
abbrev pub relation_of : ℕ → Relop
relation_of zero = Equal
relation_of (suc zero) = NotEqual
relation_of (suc (suc zero)) = Less
relation_of (suc (suc (suc zero))) = Greater
relation_of (suc (suc (suc (suc zero)))) = LessEqual
relation_of (suc (suc (suc (suc (suc n))))) = GreaterEqual

-- the stack after one step, from the number of the step, its two stored operands and the stack before it
abbrev pub done : ℕ → Cell → Cell → List Expr → List Expr
done zero a b es = alone (operand_of a) ∷ es
done (suc zero) a b es = on_one negated es
done (suc (suc zero)) a b es = on_two both es
done (suc (suc (suc zero))) a b es = on_two either es
done (suc (suc (suc (suc zero)))) a b es = on_one shown es
done (suc (suc (suc (suc (suc n))))) a b es = related (relation_of n) (operand_of a) (operand_of b) ∷ es

-- the stack after steps, in their order, from the stack before them
abbrev pub run : List Step → List Expr → List Expr
run [] es = es
run (s ∷ ss) es = run ss (done s.0 s.1.0 s.1.1 es)

-- the expression on top of a stack; the constant `n` if the stack is empty
abbrev pub top : List Expr → Expr
top [] = alone (constant N)
top (e ∷ es) = e

-- two lists of steps run as one list leave the stack that they leave one after the other
abbrev pub run-append : (ss ts : List Step) (es : List Expr) → run (ss ++ ts) es ≡ run ts (run ss es)
run-append [] ts es = refl
run-append (s ∷ ss) ts es = run-append ss ts (done s.0 s.1.0 s.1.1 es)

-- after steps that put an expression on top of a stack, one more step acts on the stack with that expression on top
abbrev pub run_one : (ss : List Step) (s : Step) (es : List Expr) (e : Expr) → run ss es ≡ e ∷ es → run (ss ++ s ∷ []) es ≡ done s.0 s.1.0 s.1.1 (e ∷ es)
run_one ss s es e h = run-append ss (s ∷ []) es ∙ ap (done s.0 s.1.0 s.1.1) h

-- the steps of an expression put just that expression on top of any stack
abbrev pub run_again : (e : Expr) (es : List Expr) → run (steps_of e) es ≡ e ∷ es
run_again (alone a) es = ap (λ o. alone o ∷ es) (operand_again a)
run_again (negated e) es = run_one (steps_of e) (1, (none, none)) es e (run_again e es)
run_again (shown e) es = run_one (steps_of e) (4, (none, none)) es e (run_again e es)
run_again (both a b) es = run-append (steps_of a ++ steps_of b) ((2, (none, none)) ∷ []) es ∙ ap (on_two both) (run-append (steps_of a) (steps_of b) es ∙ ap (run (steps_of b)) (run_again a es) ∙ run_again b (a ∷ es))
run_again (either a b) es = run-append (steps_of a ++ steps_of b) ((3, (none, none)) ∷ []) es ∙ ap (on_two either) (run-append (steps_of a) (steps_of b) es ∙ ap (run (steps_of b)) (run_again a es) ∙ run_again b (a ∷ es))
run_again (related Equal a b) es = ap (λ o. related Equal o (operand_of (cell_of b)) ∷ es) (operand_again a) ∙ ap (λ o. related Equal a o ∷ es) (operand_again b)
run_again (related NotEqual a b) es = ap (λ o. related NotEqual o (operand_of (cell_of b)) ∷ es) (operand_again a) ∙ ap (λ o. related NotEqual a o ∷ es) (operand_again b)
run_again (related Less a b) es = ap (λ o. related Less o (operand_of (cell_of b)) ∷ es) (operand_again a) ∙ ap (λ o. related Less a o ∷ es) (operand_again b)
run_again (related Greater a b) es = ap (λ o. related Greater o (operand_of (cell_of b)) ∷ es) (operand_again a) ∙ ap (λ o. related Greater a o ∷ es) (operand_again b)
run_again (related LessEqual a b) es = ap (λ o. related LessEqual o (operand_of (cell_of b)) ∷ es) (operand_again a) ∙ ap (λ o. related LessEqual a o ∷ es) (operand_again b)
run_again (related GreaterEqual a b) es = ap (λ o. related GreaterEqual o (operand_of (cell_of b)) ∷ es) (operand_again a) ∙ ap (λ o. related GreaterEqual a o ∷ es) (operand_again b)

-- how an expression is stored: as the steps that put it on top of a stack
abbrev pub expr_code : Coded Expr
expr_code = code_by (List Step) (coded_list (coded× coded_ℕ (coded× (coded× coded_ℕ (coded_list coded_ℕ)) (coded× coded_ℕ (coded_list coded_ℕ))))) steps_of (λ ss. top (run ss [])) (λ e. ap top (run_again e []))

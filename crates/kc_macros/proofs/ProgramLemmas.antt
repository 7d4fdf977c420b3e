-- Programs one after another, as equations, and what is left of a run.
use Rattle.kc_macros.proofs.Common.{fun_ext, ◌≡◌, Result, Ok, Err, refl, sym, ap, subst, IsErrAnd, Program, returns, fails, stops, ◌>>=◌, returned, Stop, RunState, RunEnd, ends, end_of_stop, Runs, cut_short, Leads, Steps}
use Rattle.kc_macros_model.specs.Programs.{does}
use Rattle.kc_macros.specs.declared.stop.Stop.TheVariants as kinds
use Rattle.kc_macros.proofs.RunLemmas.{then_runs}

pub then_returns : {A : Type 0} (p : Program A) → p >>= returns ≡ p
then_returns (returns x) = refl
then_returns (fails f) = refl
then_returns stops = refl
then_returns (does e k) = ap (does e) (fun_ext (λ r. then_returns (k r)))

pub then_then : {A B C : Type 0} (p : Program A) (f : A → Program B) (g : B → Program C) → p >>= f >>= g ≡ p >>= (λ x. f x >>= g)
then_then (returns x) f g = refl
then_then (fails h) f g = refl
then_then stops f g = refl
then_then (does e k) f g = ap (does e) (fun_ext (λ r. then_then (k r) f g))

-- two programs that begin with the same one are equal if they go on alike for each of its values
pub then_same : {A B : Type 0} (p : Program A) (f g : A → Program B) → ((x : A) → f x ≡ g x) → p >>= f ≡ p >>= g
then_same p f g h = ap (λ k. p >>= k) (fun_ext h)

pub runs_same : {A : Type 0} (s t : RunState) (p q : Program A) (e : RunEnd A) → p ≡ q → Runs s t q e → Runs s t p e
runs_same s t p q e h a = subst (λ x. Runs s t x e) (sym h) a

pub leads_same : {A : Type 0} (s : RunState) (p q : Program A) → p ≡ q → Leads s p s q
leads_same s p q h = record { leads = λ u e a. runs_same s u p q e h a }

pub leads_then : {A : Type 0} (s t u : RunState) (p q r : Program A) → Leads s p t q → Leads t q u r → Leads s p u r
leads_then s t u p q r a b = record { leads = λ v e c. a.leads v e (b.leads v e c) }

-- a program that returned a value leads to the program that follows it for this value
pub leads_on : {A B : Type 0} (s t : RunState) (p : Program A) (f : A → Program B) (x : A) → Runs s t p (ends (returned x)) → Leads s (p >>= f) t (f x)
leads_on s t p f x a = record { leads = λ u e b. then_runs s t p f x u e a b }

-- a program that ended with a stop of the code took a step as `Steps` defines
pub steps_stopped : {A X : Type 0} (s t : RunState) (p : Program A) (next : X → Program A) (stop : Stop) (r : Result X Stop) → IsErrAnd r (λ e. e ≡ stop)
    → Runs s t p (end_of_stop stop) → Steps s t p next r
steps_stopped s t p next stop (Ok x) h a = absurd h
steps_stopped s t p next stop (Err e) h a = subst (λ (x : Stop). Runs s t p (end_of_stop x)) (sym h) a

-- a result that means that memory ran out is a step of any program, as `Steps` defines
pub steps_out : {A X : Type 0} (s t : RunState) (p : Program A) (next : X → Program A) (r : Result X Stop) → IsErrAnd r (λ e. e ≡ kinds.OutOfMemory)
    → Steps s t p next r
steps_out s t p next r h = steps_stopped s t p next kinds.OutOfMemory r h cut_short

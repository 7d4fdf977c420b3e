-- Runs of programs one after another.
use Rattle.kc_macros.proofs.Common.{◌≡◌, ℕ, List, [], ◌∷◌, ◌++◌, Result, Ok, Err, refl, sym, ap, ◌∙◌, subst, append_assoc, IsErrAnd, append-nil, Fault, Program, returns, fails, stops, ◌>>=◌, World, Ending, returned, failed, Outcome, outcome, Stop, RunState, with_question, after_outcome, RunEnd}
use Rattle.kc_macros.proofs.Common.{ends, end_of_stop, end_of, HasAnswers, Runs, cut_short}
use Rattle.kc_macros_model.specs.Worlds.{stopped}
use Rattle.kc_macros_model.proofs.Outcomes.{continued_by, composed}
use Rattle.kc_macros_model.specs.AnswerFiles.{RecordedAnswers}
use Rattle.kc_macros.specs.declared.stop.Stop.TheVariants as kinds
use Rattle.kc_answers.specs.RunStates.{with_questions}
use Rattle.kc_macros.specs.Runs.{out_of_memory, ran, fault_of}

with_questions_append : (seen xs ys : List (List ℕ)) → with_questions seen (xs ++ ys) ≡ with_questions (with_questions seen xs) ys
with_questions_append seen [] ys = refl
with_questions_append seen (x ∷ xs) ys = with_questions_append (with_question seen x) xs ys

-- a program that runs from `s` in a world comes to the state `t` and to this ending
pub record RunsIn {A : Type 0} (w : World) (s t : RunState) (p : Program A) (e : Ending A) : Type 0 where
  pub state : t ≡ after_outcome s (outcome s.all_answered w s.left p)
  pub ending : (outcome s.all_answered w s.left p).ending ≡ e

-- an outcome after another
abbrev joined : {A B : Type 0} → Outcome A → Outcome B → Outcome B
joined o r = record { notices = o.notices ++ r.notices; questions = o.questions ++ r.questions; left = r.left; ending = r.ending }

after_joined : {A B : Type 0} (s : RunState) (o : Outcome A) (r : Outcome B) → after_outcome (after_outcome s o) r ≡ after_outcome s (joined o r)
after_joined s o r =
    ap (λ ns. let t : RunState = record s { left = r.left; notices = ns; questions = with_questions (with_questions s.questions o.questions) r.questions } in t)
    (append_assoc s.notices o.notices r.notices)
    ∙ ap (λ qs. let t : RunState = record s { left = r.left; notices = s.notices ++ (o.notices ++ r.notices); questions = qs } in t)
    (sym (with_questions_append s.questions o.questions r.questions))

module _ {A B : Type 0} (w : World) (s : RunState) (p : Program A) (f : A → Program B) where
  abbrev first : Outcome A
  first = outcome s.all_answered w s.left p

  returned_then : (x : A) → first.ending ≡ returned x → outcome s.all_answered w s.left (p >>= f) ≡ joined first (outcome s.all_answered w first.left (f x))
  returned_then x e = composed s.all_answered w f s.left p ∙ ap (λ end. continued_by first end (λ more y. outcome s.all_answered w more (f y))) e

  pub in_world_then : (x : A) (t u : RunState) (e : Ending B) → RunsIn w s t p (returned x) → RunsIn w t u (f x) e → RunsIn w s u (p >>= f) e
  in_world_then x t u e a b =
      let after : RunsIn w (after_outcome s first) u (f x) e = subst (λ (r : RunState). RunsIn w r u (f x) e) a.state b in
      let whole = returned_then x a.ending in
      record {
        state = after.state ∙ after_joined s first (outcome s.all_answered w first.left (f x)) ∙ ap (after_outcome s) (sym whole);
        ending = ap (λ (o : Outcome B). o.ending) whole ∙ after.ending;
      }

  pub in_world_failed : (g : Fault) (t : RunState) → RunsIn w s t p (failed g) → RunsIn w s t (p >>= f) (failed g)
  in_world_failed g t a =
      let whole : outcome s.all_answered w s.left (p >>= f) ≡ continued_by first (failed g) (λ more y. outcome s.all_answered w more (f y)) =
      composed s.all_answered w f s.left p ∙ ap (λ end. continued_by first end (λ more y. outcome s.all_answered w more (f y))) a.ending in
      record { state = a.state ∙ ap (after_outcome s) (sym whole); ending = ap (λ (o : Outcome B). o.ending) whole }

  pub in_world_stopped : (t : RunState) → RunsIn w s t p stopped → RunsIn w s t (p >>= f) stopped
  in_world_stopped t a =
      let whole : outcome s.all_answered w s.left (p >>= f) ≡ continued_by first stopped (λ more y. outcome s.all_answered w more (f y)) =
      composed s.all_answered w f s.left p ∙ ap (λ end. continued_by first end (λ more y. outcome s.all_answered w more (f y))) a.ending in
      record { state = a.state ∙ ap (after_outcome s) (sym whole); ending = ap (λ (o : Outcome B). o.ending) whole }

-- the answers of a run are the same before and after a program
pub same_answers : {A : Type 0} (w : World) (s t : RunState) (p : Program A) (e : Ending A) → RunsIn w s t p e → t.answers ≡ s.answers
same_answers w s t p e r = ap (λ (q : RunState). q.answers) r.state

pub in_world : {A : Type 0} (w : World) (s t : RunState) (p : Program A) (e : Ending A) → HasAnswers w s.answers → Runs s t p (ends e) → RunsIn w s t p e
in_world w s t p e h (ran f) = let r = f w h in record { state = r.0; ending = r.1 }

pub in_each_world : {A : Type 0} (s t : RunState) (p : Program A) (e : Ending A) → ((w : World) → HasAnswers w s.answers → RunsIn w s t p e)
    → Runs s t p (ends e)
in_each_world s t p e f = ran (λ w h. ((f w h).state, (f w h).ending))

module _ {A B : Type 0} (s t : RunState) (p : Program A) (f : A → Program B) where
  -- a program that returned a value runs with the program that follows it for this value, one after the other
  pub then_runs : (x : A) (u : RunState) (e : RunEnd B) → Runs s t p (ends (returned x)) → Runs t u (f x) e → Runs s u (p >>= f) e
  then_runs x u (ends e) a b =
      in_each_world s u (p >>= f) e (λ w h.
      let first = in_world w s t p (returned x) h a in
      let later : HasAnswers w t.answers = subst (λ (q : RecordedAnswers). HasAnswers w q) (sym (same_answers w s t p (returned x) first)) h in
      in_world_then w s p f x t u e first (in_world w t u (f x) e later b))
  then_runs x u out_of_memory a b = cut_short

  -- a program that stopped stops each program that begins with it
  pub stops_early : (stop : Stop) → Runs s t p (end_of_stop stop) → Runs s t (p >>= f) (end_of_stop stop)
  stops_early (kinds.Fault g) a = in_each_world s t (p >>= f) (failed (fault_of g))
      (λ w h. in_world_failed w s p f (fault_of g) t (in_world w s t p (failed (fault_of g)) h a))
  stops_early kinds.Unanswered a = in_each_world s t (p >>= f) stopped (λ w h. in_world_stopped w s p f t (in_world w s t p stopped h a))
  stops_early kinds.OutOfMemory a = cut_short

-- the program that only returns a value leaves the state of the run as it is
pub runs_nothing : {A : Type 0} (s : RunState) (x : A) → Runs s s (returns x) (ends (returned x))
runs_nothing s x = in_each_world s s (returns x) (returned x) (λ w h. record
    { state = ap (λ ns. let t : RunState = record s { notices = ns } in t) (sym (append-nil s.notices)); ending = refl })

-- the program that only fails ends with its fault, and leaves the state of the run as it is
pub runs_fault : {A : Type 0} (s : RunState) (g : Fault) → Runs {A = A} s s (fails g) (ends (failed g))
runs_fault s g = in_each_world s s (fails g) (failed g) (λ w h. record
    { state = ap (λ ns. let t : RunState = record s { notices = ns } in t) (sym (append-nil s.notices)); ending = refl })

pub runs_stop : {A : Type 0} (s : RunState) → Runs {A = A} s s stops (ends stopped)
runs_stop s = in_each_world s s stops stopped (λ w h. record {
  state = ap (λ ns. let t : RunState = record s { notices = ns } in t)
      (sym (append-nil s.notices));
  ending = refl;
})

-- a result that means that memory ran out is a run of any program
pub runs_out : {A X : Type 0} (s t : RunState) (p : Program A) (view : X → A) (r : Result X Stop) → IsErrAnd r (λ e. e ≡ kinds.OutOfMemory)
    → Runs s t p (end_of view r)
runs_out s t p view (Ok x) h = absurd h
runs_out s t p view (Err e) h = subst (λ (x : Stop). Runs s t p (end_of_stop x)) (sym h) cut_short

-- a program that ended with a stop of the code ran to a result that passes on this stop
pub passes_on : {A X : Type 0} (s t : RunState) (p : Program A) (view : X → A) (stop : Stop) (r : Result X Stop) → IsErrAnd r (λ e. e ≡ stop)
    → Runs s t p (end_of_stop stop) → Runs s t p (end_of view r)
passes_on s t p view stop (Ok x) h a = absurd h
passes_on s t p view stop (Err e) h a = subst (λ (x : Stop). Runs s t p (end_of_stop x)) (sym h) a

-- a program that returned a value in a state returned each value equal to it, in each equal state
pub returns_as : {A : Type 0} (s t u : RunState) (p : Program A) (x y : A) → u ≡ t → y ≡ x → Runs s t p (ends (returned x)) → Runs s u p (ends (returned y))
returns_as s t u p x y h k a = subst (λ (v : RunState). Runs s v p (ends (returned y))) (sym h) (subst (λ z. Runs s t p (ends (returned z))) (sym k) a)

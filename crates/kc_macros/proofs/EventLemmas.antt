-- Runs of programs of one event.
use Rattle.kc_macros.proofs.Common.{◌≡◌, ℕ, ◌-◌, ◌<◌, ◌≤◌, Bool, true, false, cond, List, [], ◌∷◌, ◌++◌, Option, Some, None, Ok, Err, refl, sym, ap, ◌∙◌, subst, nat_lt, lt-ltb, le-ltb, append-nil, Place, Fault, Notice, Program, returns, fails, Value, value_of_answer, asked_value, reported, World}
use Rattle.kc_macros.proofs.Common.{Ending, returned, failed, Outcome, outcome, Stop, RunState, with_question, after_outcome, ends, end_of_stop, HasAnswers, Runs, cut_short, FailsWith, spent}
use Rattle.kc_tree_model.specs.Keywords.{keyword_in_table}
use Rattle.kc_macros_model.specs.declared.fault.MacroKind.TheVariants.{Unanswered, TooMany}
use Rattle.kc_macros_model.specs.declared.fault.MacroNoticeKind.{MacroNoticeKind}
use Rattle.kc_macros_model.specs.Programs.{Answer, spend}
use Rattle.kc_macros_model.specs.Worlds.{unless_unanswered, unless_fault, after_event}
use Rattle.kc_macros.specs.declared.stop.Stop.TheVariants as kinds
use Rattle.kc_macros.proofs.RunLemmas.{RunsIn, in_each_world, runs_fault}

-- a state with no notice more
stays : (s : RunState) → s ≡ record s { notices = s.notices ++ [] }
stays s = ap (λ ns. let t : RunState = record s { notices = ns } in t) (sym (append-nil s.notices))

-- a program that ends with a fault ends with a stop of the code that is this fault, or means that memory ran out
pub fails_by : {A : Type 0} (s : RunState) (p : Program A) (f : Fault) (stop : Stop) → FailsWith f stop → Runs s s p (ends (failed f))
    → Runs s s p (end_of_stop stop)
fails_by s p f (kinds.Fault g) h r = subst (λ x. Runs s s p (ends (failed x))) (sym h) r
fails_by s p f kinds.Unanswered h r = absurd h
fails_by s p f kinds.OutOfMemory h r = cut_short

-- the program that only fails ends with a stop of the code that is its fault, or means that memory ran out
pub runs_failed : {A : Type 0} (s : RunState) (f : Fault) (stop : Stop) → FailsWith f stop → Runs {A = A} s s (fails f) (end_of_stop stop)
runs_failed {A = A} s f stop h = fails_by {A = A} s (fails f) f stop h (runs_fault s f)

module _ (s : RunState) (at : Place) (work : ℕ) where
  abbrev too_much : Fault
  too_much = record { at = at; kind = TooMany; text = [] }

  abbrev spent_by : World → Bool → Outcome (Unit {0})
  spent_by w b = unless_fault s.left (cond b (Err too_much) (Ok (s.left - work)))
      (λ more. after_event (spend at work) (outcome s.all_answered w more (returns (tt {0}))))

  all_spends : (w : World) → outcome s.all_answered w s.left (spent at work) ≡ spent_by w (nat_lt s.left work)
  all_spends w = by_test s.all_answered
    where
      by_test : (b : Bool) → outcome b w s.left (spent at work) ≡ unless_fault s.left (cond (nat_lt s.left work) (Err too_much) (Ok (s.left - work)))
          (λ more. after_event (spend at work) (outcome b w more (returns (tt {0}))))
      by_test true = refl
      by_test false = refl

  in_world_spent : (w : World) (b : Bool) → nat_lt s.left work ≡ b → (t : RunState) (e : Ending (Unit {0})) → t ≡ after_outcome s (spent_by w b)
      → (spent_by w b).ending ≡ e → RunsIn w s t (spent at work) e
  in_world_spent w b h t e state ending =
      let whole : outcome s.all_answered w s.left (spent at work) ≡ spent_by w b = all_spends w ∙ ap (spent_by w) h in
      record { state = state ∙ ap (after_outcome s) (sym whole); ending = ap (λ (o : Outcome (Unit {0})). o.ending) whole ∙ ending }

  pub spends_too_much : s.left < work → (stop : Stop) → FailsWith too_much stop → Runs s s (spent at work) (end_of_stop stop)
  spends_too_much h stop f =
      fails_by s (spent at work) too_much stop f (in_each_world s s (spent at work) (failed too_much)
      (λ w a. in_world_spent w true (lt-ltb s.left work h) s (failed too_much) (stays s) refl))

  pub spends_enough : work ≤ s.left → Runs s (record s { left = s.left - work }) (spent at work) (ends (returned (tt {0})))
  spends_enough h =
      let t : RunState = record s { left = s.left - work } in
      in_each_world s t (spent at work) (returned (tt {0})) (λ w a. in_world_spent w false (le-ltb s.left work h) t (returned (tt {0})) (stays t) refl)

-- the program that reports a notice appends it to those of the run, and returns an empty value
pub reports : (s : RunState) (at : Place) (kind : MacroNoticeKind) (text : List ℕ)
    → Runs s (record s { notices = s.notices ++ record { at = at; kind = kind; text = text } ∷ [] }) (reported at kind text) (ends (returned (Some [])))
reports s at kind text =
    let n : Notice = record { at = at; kind = kind; text = text } in
    let t : RunState = record s { notices = s.notices ++ n ∷ [] } in
    in_each_world s t (reported at kind text) (returned (Some [])) (λ w a. by_test w s.all_answered)
  where
    by_test : (w : World) (b : Bool) → RunsIn w (record s { all_answered = b })
        (record s { all_answered = b; notices = s.notices ++ record { at = at; kind = kind; text = text } ∷ [] }) (reported at kind text) (returned (Some []))
    by_test w true = record { state = refl; ending = refl }
    by_test w false = record { state = refl; ending = refl }

module _ (s : RunState) (at : Place) (question : List ℕ) where
  abbrev asked_by : Bool → Option Answer → Outcome Value
  asked_by true a = unless_fault s.left (unless_unanswered at question s.left a)
      (λ more. record { notices = []; questions = question ∷ []; left = more; ending = returned (value_of_answer a) })
  asked_by false a = record { notices = []; questions = question ∷ []; left = s.left; ending = returned (value_of_answer a) }

  all_ask : (w : World) (b : Bool) → outcome b w s.left (asked_value at question) ≡ asked_by b (w.answer question)
  all_ask w true = refl
  all_ask w false = refl

  in_world_asked : (w : World) (b : Bool) (a : Option Answer) → HasAnswers w s.answers → s.all_answered ≡ b → keyword_in_table s.answers question ≡ a
      → (t : RunState) (e : Ending Value) → t ≡ after_outcome s (asked_by b a) → (asked_by b a).ending ≡ e → RunsIn w s t (asked_value at question) e
  in_world_asked w b a answers all h t e state ending =
      let whole : outcome s.all_answered w s.left (asked_value at question) ≡ asked_by b a =
      all_ask w s.all_answered ∙ ap (λ c. asked_by c (w.answer question)) all ∙ ap (asked_by b) (answers question ∙ h) in
      record { state = state ∙ ap (after_outcome s) (sym whole); ending = ap (λ (o : Outcome Value). o.ending) whole ∙ ending }

  -- the state of the run after it asked the question
  abbrev pub noted : RunState
  noted = record s { questions = with_question s.questions question }

  pub asks_answered : (a : Answer) → keyword_in_table s.answers question ≡ Some a → Runs s noted (asked_value at question)
      (ends (returned (value_of_answer (Some a))))
  asks_answered a h = in_each_world s noted (asked_value at question) (returned (value_of_answer (Some a)))
      (λ w answers. by_test w answers s.all_answered refl)
    where
      by_test : (w : World) → HasAnswers w s.answers → (b : Bool) → s.all_answered ≡ b → RunsIn w s noted (asked_value at question)
          (returned (value_of_answer (Some a)))
      by_test w answers true all = in_world_asked w true (Some a) answers all h noted (returned (value_of_answer (Some a))) (stays noted) refl
      by_test w answers false all = in_world_asked w false (Some a) answers all h noted (returned (value_of_answer (Some a))) (stays noted) refl

  abbrev no_answer : Fault
  no_answer = record { at = at; kind = Unanswered; text = question }

  pub asks_in_vain : keyword_in_table s.answers question ≡ None → s.all_answered ≡ true → (stop : Stop) → FailsWith no_answer stop
      → Runs s s (asked_value at question) (end_of_stop stop)
  asks_in_vain h all stop f =
      fails_by s (asked_value at question) no_answer stop f (in_each_world s s (asked_value at question) (failed no_answer)
      (λ w answers. in_world_asked w true None answers all h s (failed no_answer) (stays s) refl))

  pub asks_later : keyword_in_table s.answers question ≡ None → s.all_answered ≡ false
      → Runs s noted (asked_value at question) (ends (returned None))
  asks_later h all =
      in_each_world s noted (asked_value at question) (returned None) (λ w answers. in_world_asked w false None answers all h noted (returned None)
      (stays noted) refl)

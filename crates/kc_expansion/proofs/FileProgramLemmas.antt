-- Programs that read files, one after another.
use Rattle.kc_expansion.proofs.Common.{◌≡◌, ℕ, List, Option, Some, Result, Ok, Err, refl, sym, ap, ◌∙◌, subst, IsErrAnd, IfOk, OnOk, append-nil, keyword_in_table, Fault, read_file, Program, returns, fails, stops, does, ◌>>=◌, World, Ending, returned, failed, stopped, Outcome, RecordedAnswers, Stop}
use Rattle.kc_expansion.proofs.Common.{RunState, after_outcome, FailsWith, RunEnd, ends, out_of_memory, end_of_stop, end_of, HasAnswers, Runs, fault_of, RunsIn, TreeContents, StaysKnown, FileRead, KnownFiles, AreBytes, Agrees, Grows, FileRun, file_run, Reaches, cut_short, Leads, nothing_after}
use Rattle.kc_expansion.proofs.Common.{stays_same, grows_same}
use Rattle.kc_macros_model.specs.Worlds.{ended}
use Rattle.kc_macros.specs.declared.stop.Stop.TheVariants as kinds
use Rattle.kc_macros.proofs.RunLemmas.{in_world, in_world_then, in_world_failed, in_world_stopped, same_answers}
use Rattle.kc_files.specs.between.FileRuns.{Comes}
use Rattle.kc_expansion.specs.between.Reads.{reached, Reads}
use Rattle.kc_expansion.specs.checker.ProgramSteps.{outcome_in, MeetIn, Steps}
use Rattle.kc_files.proofs.StoreLemmas.{stays_twice, grows_twice}

-- a program that comes to its end at once
at_end : {A : Type 0} {w : World} {s : RunState} {p : Program A} {e : Ending A} → outcome_in w s p ≡ ended s.left e → RunsIn w s s p e
at_end {s = s} h = record {
  state = ap (λ ns. let t : RunState = record s { notices = ns } in t) (sym (append-nil s.notices)) ∙ ap (after_outcome s) (sym h);
  ending = ap (λ (o : Outcome _). o.ending) h;
}

pub reaches_in : {A : Type 0} {w : World} {k : KnownFiles} {s t : RunState} {p : Program A} {e : Ending A} → Agrees w k → HasAnswers w s.answers
    → Reaches k s t p (ends e) → RunsIn w s t p e
reaches_in {w = w} a h (reached f) = let r = f w a h in record { state = r.0; ending = r.1 }

reaches_by : {A : Type 0} {k : KnownFiles} {s t : RunState} {p : Program A} {e : Ending A}
    → ((w : World) → Agrees w k → HasAnswers w s.answers → RunsIn w s t p e) → Reaches k s t p (ends e)
reaches_by f = reached (λ w a h. let r = f w a h in (r.state, r.ending))

grows_then : (a b c : FileRun) → Grows a.contents b.contents a.known b.known → Grows b.contents c.contents b.known c.known
    → Grows a.contents c.contents a.known c.known
grows_then a b c g h = grows_twice a.contents b.contents c.contents a.known b.known c.known g h

stays_then : (a b c : FileRun) → StaysKnown a.contents b.contents → StaysKnown b.contents c.contents → StaysKnown a.contents c.contents
stays_then a b c g h = stays_twice a.contents b.contents c.contents g h

-- code that runs a program without reading files also runs it as a program that reads files, with the same known files
pub reads_by_run : {A : Type 0} {contents : TreeContents} {known : KnownFiles} {s t : RunState} {p : Program A} {e : RunEnd A} → Runs s t p e
    → Reads (file_run contents known s) (file_run contents known t) p e
reads_by_run {A = A} {contents = contents} {known = known} {s = s} {t = t} {p = p} {e = e} a = record {
  same = stays_same contents;
  grows = grows_same contents known;
  reaches = by_cases e a;
}
  where
    by_cases : (e : RunEnd A) → Runs s t p e → Reaches known s t p e
    by_cases (ends e) a = reaches_by (λ w _ h. in_world w s t p e h a)
    by_cases out_of_memory a = cut_short

-- code runs a program that only reads files to the end to which the program comes in each world that has those files
pub reads_by_files : {A : Type 0} {a b : FileRun} {p : Program A} {e : Ending A} → StaysKnown a.contents b.contents
    → Grows a.contents b.contents a.known b.known → b.run ≡ a.run → Comes b.known p e → Reads a b p (ends e)
reads_by_files {a = a} {b = b} {p = p} {e = e} same grows run c = record {
  same = same;
  grows = grows;
  reaches = subst (λ (t : RunState). Reaches b.known a.run t p (ends e)) (sym run)
      (reaches_by (λ w h _. at_end (c.in_world w h a.run.all_answered a.run.left)));
}

-- a program that comes to its end at once in each world reads no file
ends_at_once : {A : Type 0} {a : FileRun} {p : Program A} {e : Ending A} → ((w : World) → outcome_in w a.run p ≡ ended a.run.left e)
    → Reads a a p (ends e)
ends_at_once {a = a} f = record {
  same = stays_same a.contents;
  grows = grows_same a.contents a.known;
  reaches = reaches_by (λ w _ _. at_end (f w));
}

pub reads_nothing : {A : Type 0} {a : FileRun} {x : A} → Reads a a (returns x) (ends (returned x))
reads_nothing = ends_at_once (λ w. refl)

pub reads_fault : {A : Type 0} {a : FileRun} {g : Fault} → Reads {A = A} a a (fails g) (ends (failed g))
reads_fault = ends_at_once (λ w. refl)

pub reads_stop : {A : Type 0} {a : FileRun} → Reads {A = A} a a stops (ends stopped)
reads_stop = ends_at_once (λ w. refl)

-- a program leads to itself, and so to an equal program
pub leads_same : {A : Type 0} {a : FileRun} {p q : Program A} → p ≡ q → Leads a p a q
leads_same {a = a} h = record {
  same = stays_same a.contents;
  grows = grows_same a.contents a.known;
  meet = λ w _ _. record {
    answers = refl;
    state = ap (λ r. after_outcome a.run (outcome_in w a.run r)) h;
    ending = ap (λ r. (outcome_in w a.run r).ending) h;
  };
}

pub leads_then : {A : Type 0} {a b c : FileRun} {p q r : Program A} → Leads a p b q → Leads b q c r → Leads a p c r
leads_then {a = a} {b = b} {c = c} f g = record {
  same = stays_then a b c f.same g.same;
  grows = grows_then a b c f.grows g.grows;
  meet = λ w k h.
      let one = f.meet w (g.grows.worlds w k) h in
      let two = g.meet w k (subst (λ (es : RecordedAnswers). HasAnswers w es) (sym one.answers) h) in
      record { answers = two.answers ∙ one.answers; state = one.state ∙ two.state; ending = one.ending ∙ two.ending };
}

-- a program that returns a value leads, if another one follows it, to that other program for the value
pub leads_on : {A B : Type 0} {a b : FileRun} {p : Program A} {x : A} (f : A → Program B) → Reads a b p (ends (returned x))
    → Leads a (p >>= f) b (f x)
leads_on {a = a} {b = b} {p = p} {x = x} f r = record {
  same = r.same;
  grows = r.grows;
  meet = λ w k h.
      let first = reaches_in k h r.reaches in
      let last = outcome_in w b.run (f x) in
      let whole = in_world_then w a.run p f x b.run (after_outcome b.run last) last.ending first (record { state = refl; ending = refl }) in
      record { answers = same_answers w a.run b.run p (returned x) first; state = sym whole.state; ending = whole.ending };
}

-- where a program stops early, the program followed by another one stops in the same way
pub reads_early : {A B : Type 0} {a b : FileRun} {p : Program A} (f : A → Program B) (stop : Stop) → Reads a b p (end_of_stop stop)
    → Reads a b (p >>= f) (end_of_stop stop)
reads_early {a = a} {b = b} {p = p} f stop r = record { same = r.same; grows = r.grows; reaches = by_cases stop r.reaches }
  where
    by_cases : (stop : Stop) → Reaches b.known a.run b.run p (end_of_stop stop) → Reaches b.known a.run b.run (p >>= f) (end_of_stop stop)
    by_cases (kinds.Fault g) e = reaches_by (λ w k h. in_world_failed w a.run p f (fault_of g) b.run (reaches_in k h e))
    by_cases kinds.Unanswered e = reaches_by (λ w k h. in_world_stopped w a.run p f b.run (reaches_in k h e))
    by_cases kinds.OutOfMemory e = cut_short

-- a program comes to the end of the program to which it leads
pub reads_on : {A : Type 0} {a b c : FileRun} {p q : Program A} {e : RunEnd A} → Leads a p b q → Reads b c q e → Reads a c p e
reads_on {A = A} {a = a} {b = b} {c = c} {p = p} {q = q} {e = e} f r = record {
  same = stays_then a b c f.same r.same;
  grows = grows_then a b c f.grows r.grows;
  reaches = by_cases e r.reaches;
}
  where
    by_cases : (e : RunEnd A) → Reaches c.known b.run c.run q e → Reaches c.known a.run c.run p e
    by_cases (ends e) h = reaches_by (λ w k x.
        let one = f.meet w (r.grows.worlds w k) x in
        let two = reaches_in k (subst (λ (es : RecordedAnswers). HasAnswers w es) (sym one.answers) x) h in
        record { state = two.state ∙ sym one.state; ending = one.ending ∙ two.ending })
    by_cases out_of_memory h = cut_short

-- a program that leads to a program that returns a value returns that value
pub reads_value : {A : Type 0} {a b : FileRun} {p : Program A} {x : A} → Leads a p b (returns x) → Reads a b p (ends (returned x))
reads_value f = reads_on f reads_nothing

-- a program ends by the stop that the code's result has
pub passes_on : {A X : Type 0} {a b : FileRun} {p : Program A} (view : X → A) (stop : Stop) (r : Result X Stop) → IsErrAnd r (λ e. e ≡ stop)
    → Reads a b p (end_of_stop stop) → Reads a b p (end_of view r)
passes_on view stop (Ok x) h k = absurd h
passes_on {a = a} {b = b} {p = p} view stop (Err e) h k = subst (λ (x : Stop). Reads a b p (end_of_stop x)) (sym h) k

-- where the code's result is out of memory, code runs any program to that end, with the files that it has read
pub out_now : {A X : Type 0} {a b : FileRun} {p : Program A} (view : X → A) (r : Result X Stop) → StaysKnown a.contents b.contents
    → Grows a.contents b.contents a.known b.known → IsErrAnd r (λ e. e ≡ kinds.OutOfMemory) → Reads a b p (end_of view r)
out_now view r same grows h = passes_on view kinds.OutOfMemory r h (record { same = same; grows = grows; reaches = cut_short })

-- where memory runs out after the code has run a part of a program, the whole program ends out of memory
pub out_after : {A X : Type 0} {a b : FileRun} {p q : Program A} (view : X → A) (r : Result X Stop) → Leads a p b q
    → IsErrAnd r (λ e. e ≡ kinds.OutOfMemory) → Reads a b p (end_of view r)
out_after view r f h = out_now view r f.same f.grows h

-- a program that reads a file which was read before leads to the program that goes on with the bytes of the file
pub leads_read : {A : Type 0} {a b : FileRun} {path : List ℕ} {f : Option (List ℕ) → Program A} {q : Program A} {read : FileRead}
    → StaysKnown a.contents b.contents → Grows a.contents b.contents a.known b.known → b.run ≡ a.run
    → keyword_in_table b.known.files path ≡ Some read → ((bytes : Option (List ℕ)) → AreBytes read bytes → f bytes ≡ q)
    → Leads a (does (read_file path) f) b q
leads_read {A = A} {a = a} {path = path} {f = f} {q = q} {read = read} same grows run e h = record {
  same = same;
  grows = grows;
  meet = λ w k _.
      let there : f (w.bytes path) ≡ q = h (w.bytes path) (k.files path read e) in
      subst (λ (t : RunState). MeetIn w a.run (does (read_file path) f) t q) (sym run) (record {
        answers = refl;
        state = ap (λ (p : Program A). let o = outcome_in w a.run p in
            let r : Outcome A = record { notices = o.notices; questions = o.questions; left = o.left; ending = o.ending } in after_outcome a.run r) there;
        ending = ap (λ (p : Program A). (outcome_in w a.run p).ending) there;
      });
}

pub steps_on : {A X : Type 0} {a b : FileRun} (c : FileRun) {p q : Program A} (next : X → Program A) (r : Result X Stop) → Leads a p b q
    → Steps b c q next r → Steps a c p next r
steps_on c next (Ok x) f s = leads_then f s
steps_on c next (Err stop) f s = reads_on f s

-- a program that ends by a fault ends by the code's stop for the fault
pub fails_by : {A : Type 0} {a b : FileRun} {p : Program A} {f : Fault} (stop : Stop) → FailsWith f stop → Reads a b p (ends (failed f))
    → Reads a b p (end_of_stop stop)
fails_by {a = a} {b = b} {p = p} (kinds.Fault g) k r = subst (λ (g : Fault). Reads a b p (ends (failed g))) (sym k) r
fails_by kinds.Unanswered k r = absurd k
fails_by kinds.OutOfMemory k r = record { same = r.same; grows = r.grows; reaches = cut_short }

-- a program that fails by a fault ends by the code's stop for the fault
pub reads_fails : {A : Type 0} {a : FileRun} {p : Program A} {f : Fault} (stop : Stop) → p ≡ fails f → FailsWith f stop → Reads a a p (end_of_stop stop)
reads_fails stop h k = reads_on (leads_same h) (fails_by stop k reads_fault)

pub reads_returns : {A : Type 0} {a : FileRun} {p : Program A} {x : A} → p ≡ returns x → Reads a a p (ends (returned x))
reads_returns h = reads_on (leads_same h) reads_nothing

pub if_ok : {T E : Type 0} (r : Result T E) (P Q : T → Type 0) → ((x : T) → P x → Q x) → IfOk r P → IfOk r Q
if_ok (Ok x) P Q f h = f x h
if_ok (Err e) P Q f h = tt

-- a program that returns a value leads to the program that just returns the value
pub leads_value : {A : Type 0} {a b : FileRun} {p : Program A} {x : A} → Reads a b p (ends (returned x)) → Leads a p b (returns x)
leads_value {p = p} r = leads_then (leads_same (sym (nothing_after p))) (leads_on returns r)

pub on_ok : {T E : Type 0} (r : Result T E) (P Q : Type 0) → (P → Q) → OnOk r P → OnOk r Q
on_ok (Ok x) P Q f h = f h
on_ok (Err e) P Q f h = tt

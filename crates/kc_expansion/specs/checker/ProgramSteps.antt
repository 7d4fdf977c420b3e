-- Steps of a program that reads files, and the program that each leads to.
use Rattle.std.specs.Prelude.{◌≡◌, Result, Ok, Err}
use Rattle.kc_macros_model.specs.Programs.{Program}
use Rattle.kc_macros_model.specs.Worlds.{World, Outcome, outcome}
use Rattle.kc_macros.specs.declared.stop.Stop.{Stop}
use Rattle.kc_answers.specs.RunStates.{RunState, after_outcome}
use Rattle.kc_macros.specs.Runs.{end_of_stop, HasAnswers}
use Rattle.kc_files.specs.TreeContents.{StaysKnown}
use Rattle.kc_files.specs.between.KnownFiles.{Agrees, Grows}
use Rattle.kc_expansion.specs.between.Reads.{FileRun, Reads}

-- the outcome of a program that starts in a state of a run
abbrev pub outcome_in : {A : Type 0} → World → RunState → Program A → Outcome A
outcome_in w s p = outcome s.all_answered w s.left p

-- two programs, each started in a state of a run of its own, come to the same state and the same end
pub record MeetIn {A : Type 0} (w : World) (s : RunState) (p : Program A) (t : RunState) (q : Program A) : Type 0 where
  pub answers : t.answers ≡ s.answers
  pub state : after_outcome s (outcome_in w s p) ≡ after_outcome t (outcome_in w t q)
  pub ending : (outcome_in w s p).ending ≡ (outcome_in w t q).ending

-- the program `p` comes to the same state and end as the program `q` after more files were read
pub record Leads {A : Type 0} (before : FileRun) (p : Program A) (after : FileRun) (q : Program A) : Type 0 where
  pub same : StaysKnown before.contents after.contents
  pub grows : Grows before.contents after.contents before.known after.known
  pub meet : (w : World) → Agrees w after.known → HasAnswers w before.run.answers → MeetIn w before.run p after.run q

-- a step that code takes in a program returns a value and leads to the program `next` for that value, or stops the program
abbrev pub Steps : {A X : Type 0} → (before after : FileRun) → Program A → (X → Program A) → Result X Stop → Type 0
Steps before after p next (Ok x) = Leads before p after (next x)
Steps before after p next (Err stop) = Reads before after p (end_of_stop stop)

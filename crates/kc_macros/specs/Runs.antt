-- Programs that code runs: the state that a program takes a run to, and its end.
use Rattle.std.specs.Prelude.{◌≡◌, ℕ, List, Result, Ok, Err}
use Rattle.kc_tree_model.specs.Keywords.{keyword_in_table}
use Rattle.kc_macros_model.specs.AnswerFiles.{RecordedAnswers}
use Rattle.kc_macros_model.specs.Programs.{Place, Fault, Notice, Program}
use Rattle.kc_macros_model.specs.Worlds.{World, Ending, returned, failed, stopped, outcome}
use Rattle.kc_macros.specs.declared.stop.Place.{Place as LinePlace}
use Rattle.kc_macros.specs.declared.stop.MacroFault.{MacroFault}
use Rattle.kc_macros.specs.declared.stop.MacroNotice.{MacroNotice}
use Rattle.kc_macros.specs.declared.stop.Stop.{Stop}
use Rattle.kc_macros.specs.declared.stop.Stop.TheVariants as stops
use Rattle.kc_answers.specs.RunStates.{RunState, after_outcome}

-- a `Place` of the code (a file and a line) as a place of `kc_macros_model`
abbrev pub place_of : LinePlace → Place
place_of p = record { file = p.file.now; line = p.line }

-- a `MacroFault` of the code as a fault of `kc_macros_model`
abbrev pub fault_of : MacroFault → Fault
fault_of f = record { at = record { file = f.file; line = f.line }; kind = f.kind; text = f.text }

-- a `MacroNotice` of the code as a notice of `kc_macros_model`
abbrev pub notice_of : MacroNotice → Notice
notice_of n = record { at = record { file = n.file; line = n.line }; kind = n.kind; text = n.text }

-- how code that runs a program ends: as the program does, or since memory ran out
pub data RunEnd (A : Type 0) : Type 0 where
  ends : Ending A → RunEnd A
  out_of_memory : RunEnd A

-- the end of a run that a `Stop` of the code means
abbrev pub end_of_stop : {A : Type 0} → Stop → RunEnd A
end_of_stop (stops.Fault f) = ends (failed (fault_of f))
end_of_stop stops.Unanswered = ends stopped
end_of_stop stops.OutOfMemory = out_of_memory

-- the end of a run that a result of the code means; `view` turns its value into one of `kc_macros_model`
abbrev pub end_of : {A B : Type 0} → (A → B) → Result A Stop → RunEnd B
end_of view (Ok x) = ends (returned (view x))
end_of view (Err s) = end_of_stop s

-- a world answers each question as these recorded answers do, and no other question
abbrev pub HasAnswers : World → RecordedAnswers → Type 0
HasAnswers w answers = (question : List ℕ) → w.answer question ≡ keyword_in_table answers question

-- code that goes from the state `before` to `after` and to this end runs the program `p`: with the recorded answers, `p` comes
-- to the same state and end; where memory ran out, nothing is claimed
pub data Runs {A : Type 0} (before after : RunState) (p : Program A) : RunEnd A → Type 0 where
  ran : {e : Ending A} → ((w : World) → HasAnswers w before.answers
      → (after ≡ after_outcome before (outcome before.all_answered w before.left p)) × ((outcome before.all_answered w before.left p).ending ≡ e)) → Runs before after p (ends e)
  cut_short : Runs before after p out_of_memory

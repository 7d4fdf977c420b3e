-- Steps of a program, and the program that each leads to.
use Rattle.std.specs.Prelude.{Result, Ok, Err}
use Rattle.kc_macros_model.specs.Programs.{Program}
use Rattle.kc_macros.specs.declared.stop.Stop.{Stop}
use Rattle.kc_answers.specs.RunStates.{RunState}
use Rattle.kc_macros.specs.Runs.{RunEnd, end_of_stop, Runs}

-- the program `p` in the state `s` comes to each state and end that `q` in the state `t` comes to
pub record Leads {A : Type 0} (s : RunState) (p : Program A) (t : RunState) (q : Program A) : Type 0 where
  pub leads : (u : RunState) (e : RunEnd A) → Runs t u q e → Runs s u p e

-- a step of the code through a program, from the state `s` to `t`, gave a value and leads to the program for this value, or it
-- stopped the program
abbrev pub Steps : {A X : Type 0} → (s t : RunState) → Program A → (X → Program A) → Result X Stop → Type 0
Steps s t p next (Ok x) = Leads s p t (next x)
Steps s t p next (Err stop) = Runs s t p (end_of_stop stop)

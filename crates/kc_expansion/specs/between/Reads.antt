-- Programs that read files, as code runs them.
use Rattle.std.specs.Prelude.{◌≡◌}
use Rattle.kc_macros_model.specs.Programs.{Program}
use Rattle.kc_macros_model.specs.Worlds.{World, Ending, outcome}
use Rattle.kc_answers.specs.RunStates.{RunState, after_outcome}
use Rattle.kc_macros.specs.Runs.{RunEnd, ends, out_of_memory, HasAnswers}
use Rattle.kc_files.specs.TreeContents.{TreeContents, StaysKnown}
use Rattle.kc_files.specs.between.KnownFiles.{KnownFiles, Agrees, Grows}

-- a run that reads files: the known contents of the tree, the files that were read, and the state of the run
pub record FileRun : Type 0 where
  pub contents : TreeContents
  pub known : KnownFiles
  pub run : RunState

-- the run with these known contents of the tree, files that were read, and state
abbrev pub file_run : TreeContents → KnownFiles → RunState → FileRun
file_run contents known run = record { contents = contents; known = known; run = run }

-- a program takes a run from one state to another and to an end, in each `World` that has the files that were read and the
-- answers of the run; where memory ran out, nothing is required of the program
pub data Reaches {A : Type 0} (known : KnownFiles) (before after : RunState) (p : Program A) : RunEnd A → Type 0 where
  reached : {e : Ending A} → ((w : World) → Agrees w known → HasAnswers w before.answers
      → (after ≡ after_outcome before (outcome before.all_answered w before.left p)) × ((outcome before.all_answered w before.left p).ending ≡ e)) → Reaches known before after p (ends e)
  cut_short : Reaches known before after p out_of_memory

-- code runs a program that reads files: it forgets no file that was read, the files agree with their known contents unless the count of
-- failures rose, and the program takes the run to this state and this end
pub record Reads {A : Type 0} (before after : FileRun) (p : Program A) (e : RunEnd A) : Type 0 where
  pub same : StaysKnown before.contents after.contents
  pub grows : Grows before.contents after.contents before.known after.known
  pub reaches : Reaches after.known before.run after.run p e

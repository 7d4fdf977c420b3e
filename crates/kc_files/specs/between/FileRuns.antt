-- Programs that only read files and list folders, in each world that has what was read.
use Rattle.std.specs.Prelude.{◌≡◌, ℕ, Bool, []}
use Rattle.kc_macros_model.specs.declared.fault.MacroKind.TheVariants.{MissingFile, TooMany}
use Rattle.kc_macros_model.specs.Programs.{Place, Fault, Program}
use Rattle.kc_macros_model.specs.Worlds.{World, Ending, ended, outcome}
use Rattle.kc_files.specs.between.KnownFiles.{KnownFiles, Agrees}

-- a program comes to this end without work, notices and questions, in each `World` that has the files that were read
pub record Comes {A : Type 0} (known : KnownFiles) (p : Program A) (e : Ending A) : Type 0 where
  pub in_world : (w : World) → Agrees w known → (all_answered : Bool) (left : ℕ) → outcome all_answered w left p ≡ ended left e

-- two programs have the same outcome in each `World` that has the files that were read
pub record HaveSameOutcome {A : Type 0} (known : KnownFiles) (p q : Program A) : Type 0 where
  pub in_world : (w : World) → Agrees w known → (all_answered : Bool) (left : ℕ) → outcome all_answered w left p ≡ outcome all_answered w left q

-- the fault `MissingFile` at a line of a file, without a text
abbrev pub missing_at : Place → Fault
missing_at at = record { at = at; kind = MissingFile; text = [] }

-- the fault `TooMany` at a line of a file, without a text
abbrev pub too_many_at : Place → Fault
too_many_at at = record { at = at; kind = TooMany; text = [] }

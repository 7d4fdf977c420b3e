-- What the code's result of a step says of the program that it runs.
use Rattle.std.specs.Prelude.{Result, Ok, Err}
use Rattle.kc_macros_model.specs.Programs.{Program}
use Rattle.kc_macros.specs.declared.stop.Stop.{Stop}
use Rattle.kc_macros.specs.Runs.{end_of_stop}
use Rattle.kc_expansion.specs.between.Reads.{FileRun, Reads}

-- a step that code takes in a program returns a value that has a property, or stops the program
abbrev pub StepsTo : {A X : Type 0} → (before after : FileRun) → Program A → (X → Type 0) → Result X Stop → Type 0
StepsTo before after p q (Ok x) = q x
StepsTo before after p q (Err stop) = Reads before after p (end_of_stop stop)

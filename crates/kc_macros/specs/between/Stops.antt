-- Faults by which the code stops an expansion.
use Rattle.std.specs.Prelude.{◌≡◌}
use Rattle.kc_macros_model.specs.Programs.{Fault}
use Rattle.kc_macros.specs.declared.stop.Stop.{Stop}
use Rattle.kc_macros.specs.declared.stop.Stop.TheVariants as kinds
use Rattle.kc_macros.specs.Runs.{fault_of}

-- a stop of the code is this fault, or means that memory ran out
abbrev pub FailsWith : Fault → Stop → Type 0
FailsWith f (kinds.Fault g) = fault_of g ≡ f
FailsWith f kinds.Unanswered = ⊥
FailsWith f kinds.OutOfMemory = Unit {0}

-- Faults that come only where a fact holds, and programs that only do work.
use Rattle.std.specs.Prelude.{◌≡◌, ℕ}
use Rattle.kc_macros_model.specs.Programs.{Place, Fault, spend, Program, returns, does}
use Rattle.kc_macros.specs.declared.stop.Stop.{Stop}
use Rattle.kc_macros.specs.declared.stop.Stop.TheVariants as kinds
use Rattle.kc_macros.specs.Runs.{fault_of}

-- the program that spends this much work and does nothing else
abbrev pub spent : Place → ℕ → Program (Unit {0})
spent at work = does (spend at work) (λ u. returns u)

-- a stop of the code is this fault, and the given fact holds, or it means that memory ran out
abbrev pub FailsIf : Type 0 → Fault → Stop → Type 0
FailsIf P f (kinds.Fault g) = P × (fault_of g ≡ f)
FailsIf P f kinds.Unanswered = ⊥
FailsIf P f kinds.OutOfMemory = Unit {0}

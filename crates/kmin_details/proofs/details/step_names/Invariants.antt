use Rattle.std.proofs.Common.{◌≡◌, ℕ, List, take, map}
use Rattle.std.specs.Borrow.{Bor}
use Rattle.kmin_faults.specs.declared.steps.Step.{Step}
use Rattle.kmin_details.proofs.details.step_names.Given as goal

abbrev pub invariant-loop-step : goal.invariant-loop-step
invariant-loop-step l = map (λ (name : Bor (List ℕ)). name.now) l.names.items ≡ map (λ (step : Step). step.name.now) (take l.step-index l.steps)

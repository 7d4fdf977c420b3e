use Rattle.std.proofs.Common.{take, map, string_bytes}
use Rattle.kmin_faults.specs.between.Steps.{step_of}
use Rattle.kmin_details.proofs.CycleTexts.{HasSteps}
use Rattle.kmin_details.proofs.cycle_steps.cycle_text.Given as goal

abbrev pub invariant-loop-step : goal.invariant-loop-step
invariant-loop-step l = HasSteps (map step_of (take l.step-index l.steps)) (string_bytes l.text) l.between

use Rattle.kmin_run.proofs.Common.{[], ◌∷◌, refl, arith, common_steps, none, lines_one, memory_err}
use Rattle.kmin_run.specs.BundleOutputs.{large_line, unread_line, unread, too_large, for_memory}
use Rattle.kmin_run.proofs.bundle.read_whole.Goals as goal

pub returns-in_err-bytes-clause-stopped : goal.returns-in_err-bytes-clause-stopped
returns-in_err-bytes-clause-stopped g c = memory_err _ _ c.from_residual.ensures (λ stop status. ([], for_memory status refl, none))

pub returns-in-AtEnd-clause-unreported : goal.returns-in-AtEnd-clause-unreported
returns-in-AtEnd-clause-unreported g c = none

pub returns-in-AtLimit-clause-stopped : goal.returns-in-AtLimit-clause-stopped
returns-in-AtLimit-clause-stopped g c = (
  large_line ∷ [],
  too_large c.in_ok-bytes.field-0.bytes.items c.in_ok-bytes.ensures.bytes (grind (arith, common_steps)) refl refl,
  lines_one _ _ _ _ _
      c.report_bundle.ensures,
)

pub returns-in-AtFailure-clause-stopped : goal.returns-in-AtFailure-clause-stopped
returns-in-AtFailure-clause-stopped g c = (unread_line ∷ [], unread refl refl, lines_one _ _ _ _ _ c.report_bundle-in-AtFailure.ensures)

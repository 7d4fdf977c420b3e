use Rattle.kmin_inputs.proofs.Common.{[], refl, arith, none, unread, lines_one, rest_of, whole_content, memory_err}
use Rattle.std.proofs.lemmas.Grind.{common_steps}
use Rattle.kmin_inputs.specs.ListFiles.{too_large, for_memory}
use Rattle.kmin_inputs.proofs.list_files.read_from.Goals as goal

pub returns-in_err-bytes-clause-stopped : goal.returns-in_err-bytes-clause-stopped
returns-in_err-bytes-clause-stopped g c =
    memory_err _ _ c.from_residual.ensures (λ stop status. ([], (λ content opens. for_memory status refl), none))

pub returns-in-AtEnd-clause-read : goal.returns-in-AtEnd-clause-read
returns-in-AtEnd-clause-read g c = λ content opens. record {
  known = whole_content content _ _ c.in_ok-bytes.field-0.bytes.items opens c.in_ok-bytes.ensures.bytes (c.in_ok-bytes.ensures.at_end c.in-AtEnd.is);
  within = grind (arith, common_steps);
}

pub returns-in-AtEnd-clause-unreported : goal.returns-in-AtEnd-clause-unreported
returns-in-AtEnd-clause-unreported g c = none

pub returns-in-AtEnd-clause-unfailed : goal.returns-in-AtEnd-clause-unfailed
returns-in-AtEnd-clause-unfailed g c = rw c.in-AtEnd.is at c.in_ok-bytes.ensures.failures

pub returns-in-AtLimit-clause-stopped : goal.returns-in-AtLimit-clause-stopped
returns-in-AtLimit-clause-stopped g c = (
  _,
  (λ content opens.
      let rest = rest_of content _ _ c.in_ok-bytes.field-0.bytes.items opens c.in_ok-bytes.ensures.bytes in
      too_large c.in_ok-bytes.field-0.bytes.items rest.0 rest.1 (grind (arith, common_steps)) refl refl),
  lines_one _ _ _ _ _ c.report_list.ensures,
)

pub returns-in-AtFailure-clause-stopped : goal.returns-in-AtFailure-clause-stopped
returns-in-AtFailure-clause-stopped g c = (_, (λ content opens. unread refl refl), lines_one _ _ _ _ _ c.report_list-in-AtFailure.ensures)

pub returns-in_err-bytes-clause-failed : goal.returns-in_err-bytes-clause-failed
returns-in_err-bytes-clause-failed g c = memory_err _ _ c.from_residual.ensures (λ stop status. λ five. absurd (omega arith))

pub returns-in-AtFailure-clause-failed : goal.returns-in-AtFailure-clause-failed
returns-in-AtFailure-clause-failed g c = λ five. λ below. omega (arith, rw c.in-AtFailure.is at c.in_ok-bytes.ensures.failures)

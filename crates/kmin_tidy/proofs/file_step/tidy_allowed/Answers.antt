use Rattle.kmin_tidy.proofs.Common.{refl, inl, inr, if_ok_map, if_err_map}
use Rattle.kmin_tidy.proofs.WholeRuns.{memory_stop}
use Rattle.kmin_tidy.proofs.file_step.tidy_allowed.Goals as goal

pub returns-clause-rewritten : goal.returns-clause-rewritten
returns-clause-rewritten g c =
    if_ok_map c.rewrite.result _ _ (λ end r. (r.0, r.1, c.deref.result.now, rw c.deref.ensures.value c.in_ok-minimal_bytes.ensures.canonical, r.2))
    c.rewrite.ensures.rewritten

pub returns-clause-stopped : goal.returns-clause-stopped
returns-clause-stopped g c =
    if_err_map c.rewrite.result _ _ (λ stop h. inr (c.deref.result.now, rw c.deref.ensures.value c.in_ok-minimal_bytes.ensures.canonical, h)) c.rewrite.ensures.stopped

pub returns-in_err-minimal_bytes-clause-stopped : goal.returns-in_err-minimal_bytes-clause-stopped
returns-in_err-minimal_bytes-clause-stopped g c = memory_stop c.from_residual.result _ c.from_residual.ensures (inl (refl, refl))

use Rattle.std.proofs.Common.{Some, ap, sym, ◌∙◌}
use Rattle.kc_macros_model.specs.Programs.{returns as returns_value}
use Rattle.kc_macros.proofs.RunLemmas.{runs_out}
use Rattle.kc_macros.proofs.ExpansionLemmas.{returns_so}
use Rattle.kc_macros.proofs.partial_value.copied_value.Goals as goal

pub returns-in_err-copied-in-Some : goal.returns-in_err-copied-in-Some
returns-in_err-copied-in-Some c = λ s. runs_out _ _ _ _ _ c.from_residual.ensures.1

pub returns-in_ok-copied-in-Some : goal.returns-in_ok-copied-in-Some
returns-in_ok-copied-in-Some c = λ s. returns_so s _ _ (ap returns_value (c.in-Some.is
    ∙ ap Some (sym (c.in_ok-copied-in-Some.ensures ∙ c.as_slice.ensures))))

pub returns-in-None : goal.returns-in-None
returns-in-None c = λ s. returns_so s _ _ (ap returns_value c.in-None.is)

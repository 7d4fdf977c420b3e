use Rattle.kmin_explain_command.proofs.Common.{[], refl, Bor, memory_err, no_success}
use Rattle.kmin_report.specs.StandardError.{none}
use Rattle.kmin_report.proofs.WriterLemmas.{lines_one}
use Rattle.kmin_explain_command.specs.between.UnknownNames.{unknown, for_memory}
use Rattle.kmin_explain_command.proofs.TextEnds.{found_name, found_none}
use Rattle.kmin_explain_command.proofs.unknown_names.refuse_unknown.Goals as goal

pub returns-in_err-first_unknown : goal.returns-in_err-first_unknown
returns-in_err-first_unknown g c =
    record {
      known = no_success c.from_residual.result _ _ c.from_residual.ensures.1;
      unreported = no_success c.from_residual.result _ _ c.from_residual.ensures.1;
      stopped = memory_err _ _ c.from_residual.ensures (λ stop status. for_memory none status);
    }

pub returns-in-None : goal.returns-in-None
returns-in-None g c = record { known = found_none c.in_ok-first_unknown.field-0 _ c.in-None.is c.in_ok-first_unknown.ensures; unreported = none; stopped = tt }

pub returns-in_err-near-in-Some : goal.returns-in_err-near-in-Some
returns-in_err-near-in-Some g c =
    record {
      known = no_success c.from_residual-in_err-near-in-Some.result _ _ c.from_residual-in_err-near-in-Some.ensures.1;
      unreported = no_success c.from_residual-in_err-near-in-Some.result _ _ c.from_residual-in_err-near-in-Some.ensures.1;
      stopped = memory_err _ _ c.from_residual-in_err-near-in-Some.ensures (λ stop status. for_memory none status);
    }

pub returns-in_err-line-in-Some : goal.returns-in_err-line-in-Some
returns-in_err-line-in-Some g c =
    record {
      known = no_success c.from_residual-in_err-line-in-Some.result _ _ c.from_residual-in_err-line-in-Some.ensures.1;
      unreported = no_success c.from_residual-in_err-line-in-Some.result _ _ c.from_residual-in_err-line-in-Some.ensures.1;
      stopped = memory_err _ _ c.from_residual-in_err-line-in-Some.ensures (λ stop status. for_memory none status);
    }

pub returns-in_ok-line-in-Some : goal.returns-in_ok-line-in-Some
returns-in_ok-line-in-Some g c =
    record {
      known = tt;
      unreported = tt;
      stopped = unknown c.in-Some.name.now _ (found_name c.in-Some.name c.in_ok-first_unknown.field-0 _ c.in-Some.is c.in_ok-first_unknown.ensures) c.in_ok-near-in-Some.ensures
          (lines_one _ _ _ _ _ (rw (c.deref.ensures, c.in_ok-line-in-Some.ensures) at c.write_report.ensures)) refl;
    }

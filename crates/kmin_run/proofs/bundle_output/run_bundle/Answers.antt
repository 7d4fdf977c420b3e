use Rattle.kmin_run.proofs.Common.{[], ◌∷◌, ◌++◌, Err, ap, inl, inr, refl, output_line, lines_append, lines_kept, with_error, value_is_no_error}
use Rattle.kmin_run.specs.BundleOutputs.{in_bundle, at_write}
use Rattle.kc_solver.proofs.ErrorExits.{no_success}
use Rattle.kmin_outputs.proofs.ErrorExits.{error_is}
use Rattle.kmin_run.proofs.bundle_output.run_bundle.Goals as goal

pub returns-in_err-bundle : goal.returns-in_err-bundle
returns-in_err-bundle g c =
    record {
      ok = no_success c.from_residual.result _ _ c.from_residual.ensures.1;
      unfailed = no_success c.from_residual.result _ _ c.from_residual.ensures.1;
      failures = λ e. inl (c.in_err-bundle.ensures.failures (ap Err (error_is c.from_residual.result _ _ c.from_residual.ensures.1 e)));
      part = λ e. inl refl;
      unwritten = with_error c.from_residual.result _ _ c.from_residual.ensures.1 (inr refl);
      stopped = with_error c.from_residual.result _ _ c.from_residual.ensures.1 c.in_err-bundle.ensures.stopped;
    }

pub returns-in_err-text : goal.returns-in_err-text
returns-in_err-text g c =
    let stopped = c.in_err-text.ensures.stopped in record {
      ok = no_success c.from_residual-in_err-text.result _ _ c.from_residual-in_err-text.ensures.1;
      unfailed = no_success c.from_residual-in_err-text.result _ _ c.from_residual-in_err-text.ensures.1;
      failures = λ e. absurd (c.in_err-text.ensures.unfailed (ap Err (error_is c.from_residual-in_err-text.result _ _ c.from_residual-in_err-text.ensures.1 e)));
      part = λ e. inl refl;
      unwritten = with_error c.from_residual-in_err-text.result _ _ c.from_residual-in_err-text.ensures.1 (inr refl);
      stopped = with_error c.from_residual-in_err-text.result _ _ c.from_residual-in_err-text.ensures.1 (
        stopped.0,
        in_bundle c.in_ok-bundle.bundle.items c.in_ok-bundle.ensures.ok (rw c.deref.ensures.value at stopped.1),
        lines_append _ _ _ _ [] stopped.0 _ _
            c.in_ok-bundle.ensures.unreported stopped.2,
      );
    }

pub returns-in-Ok : goal.returns-in-Ok
returns-in-Ok g c =
    let output = c.in_ok-text.ensures.ok in record {
      ok = (
        c.in_ok-bundle.bundle.items,
        c.in_ok-text.text.items,
        output.0,
        c.in_ok-bundle.ensures.ok,
        c.in_ok-bundle.ensures.within,
        rw c.deref.ensures.value at output.1,
        rw c.deref-2.ensures.value at c.in-Ok.ensures.whole,
        lines_kept _ _ _ _ _ _ output.0 (lines_append _ _ _ _ [] output.0 _ _ c.in_ok-bundle.ensures.unreported output.2) c.in-Ok.ensures.unreported,
      );
      unfailed = (c.in_ok-bundle.ensures.unfailed, c.in-Ok.ensures.unfailed);
      failures = λ e. absurd (value_is_no_error _ _ e);
      part = λ e. absurd (value_is_no_error _ _ e);
      unwritten = tt;
      stopped = tt;
    }

pub returns : goal.returns
returns g c =
    let output = c.in_ok-text.ensures.ok in record {
      ok = tt;
      unfailed = tt;
      failures = λ e. inr c.in-Err.ensures.failures;
      part = λ e. inr (record {
        bundle = c.in_ok-bundle.bundle.items;
        whole = c.in_ok-bundle.ensures.ok;
        text = c.in_ok-text.text.items;
        notices = output.0;
        has = rw c.deref.ensures.value at output.1;
        written = c.in-Err.field-0.written;
        taken = rw c.deref-2.ensures.value at c.in-Err.ensures.part.1;
      });
      unwritten = inl refl;
      stopped = (
        output.0 ++ output_line ∷ [],
        at_write c.in_ok-bundle.bundle.items c.in_ok-text.text.items output.0 c.in_ok-bundle.ensures.ok (rw c.deref.ensures.value at output.1) refl refl,
        lines_append _ _ _ _ output.0 (output_line ∷ []) _ _ (lines_append _ _ _ _ [] output.0 _ _ c.in_ok-bundle.ensures.unreported output.2) c.in-Err.ensures.reported,
      );
    }

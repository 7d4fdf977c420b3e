-- The last lines of a run, by the error that ends it.
use Rattle.std.proofs.Common.{◌≡◌, ℕ, List, [], ◌∷◌, ◌++◌, refl, sym, subst, append-nil}
use Rattle.kmin_report.specs.declared.run_error.RunError.{RunError}
use Rattle.kmin_report.specs.declared.run_error.RunError.TheVariants.{Tree, Configuration, Failed, Memory}
use Rattle.kmin_report.specs.Reports.{ErrorLine, last_lines, output_line}
use Rattle.kmin_report.specs.StandardError.{SpelledBytes, TakesLines}
use Rattle.kmin_report.specs.between.RunErrors.{status_of}
use Rattle.kmin_report.proofs.WriterLemmas.{lines_append}

-- a run that ended for another reason than lack of memory has no last line
pub last_lines_none : (stop : RunError) → (stop ≡ Memory → ⊥) → last_lines (status_of stop) ≡ []
last_lines_none Tree h = refl
last_lines_none Configuration h = refl
last_lines_none Failed h = refl
last_lines_none Memory h = absurd (h refl)

-- a run that ends by its status and its lines of standard error
module _ (Ends : ℕ → List ErrorLine → Type 0) (status : ℕ) (taken middle after : SpelledBytes) (failed failed_middle failed_after : ℕ) where
  -- at an error, whose last line was then reported
  pub ends_by : (stop : RunError) → status ≡ status_of stop
      → (lines : List ErrorLine) × Ends (status_of stop) lines × TakesLines taken failed lines middle failed_middle
      → TakesLines middle failed_middle (last_lines status) after failed_after
      → (lines : List ErrorLine) × Ends status lines × TakesLines taken failed (lines ++ last_lines status) after failed_after
  ends_by stop is w h = (
    w.0,
    subst (λ n. Ends n w.0) (sym is) w.1,
    lines_append taken middle failed failed_middle w.0 (last_lines status) after failed_after w.2 h,
  )

  -- at a failed write of its output, which was then reported
  pub ends_at_write : (lines : List ErrorLine) → status ≡ 5 → Ends status (lines ++ output_line ∷ []) → TakesLines taken failed lines middle failed_middle
      → TakesLines middle failed_middle (output_line ∷ []) after failed_after
      → (lines : List ErrorLine) × Ends status lines × TakesLines taken failed (lines ++ last_lines status) after failed_after
  ends_at_write lines five ends before h = (
    lines ++ output_line ∷ [],
    ends,
    rw five (subst (λ all. TakesLines taken failed all after failed_after) (sym (append-nil (lines ++ output_line ∷ [])))
        (lines_append taken middle failed failed_middle lines (output_line ∷ []) after failed_after before h)),
  )

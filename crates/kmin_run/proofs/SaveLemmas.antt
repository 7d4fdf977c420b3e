-- Ends of commands with an output file.
use Rattle.kmin_run.proofs.Common.{◌≡◌, ℕ, List, ◌++◌, refl, sym, ◌∙◌, subst, Disk, Settings, Task, Surroundings, TreeTexts, AreTextsOfJob, HasOutput, ErrorLine, last_lines, SpelledBytes, TakesLines, RunError, status_of, lines_append}
use Rattle.kmin_disk.specs.declared.fault.UpdateFault.{UpdateFault}
use Rattle.kmin_outputs.specs.Stops.{StopsBefore}
use Rattle.kmin_run.specs.Saves.{IsUnsaved, SaveEnds, at_file, before_output, update_lines, update_status}

module _ (known : Surroundings) (counted counted_after : ℕ) (settings : Settings) (task : Task) (path : List ℕ) (old new : Disk) (stop : RunError) (status : ℕ)
    (is : status ≡ status_of stop)
    (taken : SpelledBytes) (failed : ℕ) (last : SpelledBytes) (failed_last : ℕ) where
  -- a command with an output file that ended before it had an output, and then reported its last line, ends as `SaveEnds` defines
  pub ends_before : (middle : SpelledBytes) (failed_middle : ℕ) → new ≡ old
      → (own : List ErrorLine) × StopsBefore known counted counted_after settings task (status_of stop) own × TakesLines taken failed own middle failed_middle
      → TakesLines middle failed_middle (last_lines status) last failed_last
      → (lines : List ErrorLine) × SaveEnds known counted counted_after settings task path old new lines status × TakesLines taken failed lines last failed_last
  ends_before middle failed_middle same w h = (
    w.0 ++ last_lines status,
    before_output w.0 (subst (λ n. StopsBefore known counted counted_after settings task n w.0) (sym is) w.1) same refl,
    lines_append taken middle failed failed_middle w.0 (last_lines status) last failed_last w.2 h,
  )

  -- a command that couldn't update its output file, and reported why, ends as `SaveEnds` defines
  pub ends_at_file : (text : List ℕ) (made : ℕ) (produced reported : SpelledBytes) (failed_produced failed_reported : ℕ)
      → (t : TreeTexts) × (notices : List ErrorLine) × AreTextsOfJob known settings t × HasOutput known.content settings t.texts task text made notices
      × TakesLines taken failed (t.lines ++ notices) produced failed_produced
      → (fault : UpdateFault) × IsUnsaved old new path text fault × (status_of stop ≡ update_status fault)
      × TakesLines produced failed_produced (update_lines path fault) reported failed_reported
      → TakesLines reported failed_reported (last_lines status) last failed_last
      → (lines : List ErrorLine) × SaveEnds known counted counted_after settings task path old new lines status × TakesLines taken failed lines last failed_last
  ends_at_file text made produced reported failed_produced failed_reported w f h =
      let own = (w.0.lines ++ w.1) ++ update_lines path f.0 in
      let lines_taken = lines_append taken produced failed failed_produced (w.0.lines ++ w.1) (update_lines path f.0) reported failed_reported w.4 f.3 in (
        own ++ last_lines status,
        at_file w.0 text made w.1 f.0 w.2 w.3 f.1 (is ∙ f.2) refl,
        lines_append taken reported failed failed_reported own (last_lines status) last failed_last lines_taken h,
      )

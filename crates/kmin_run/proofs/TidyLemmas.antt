-- Ends of runs over files: their statuses, their lines, and where nothing is written.
use Rattle.std.proofs.Common.{max}
use Rattle.std.specs.Prelude.{Bool, true, false}
use Rattle.kmin_tidy.specs.Options.{TidySettings, settings_of}
use Rattle.kmin_run.proofs.Common.{◌≡◌, ◌≢◌, ℕ, ◌≤◌, ◌⊎◌, inl, inr, List, [], ◌∷◌, ◌++◌, Option, refl, sym, ap, ◌∙◌, subst, arith, Disk, Appends, SpelledBytes, TakesLine, TakesLines, Surroundings, ErrorLine, last_lines, AreAccepted, TreeTexts, AreTextsOfJob, at_list}
use Rattle.kmin_run.proofs.Common.{Outputs, malformed_line, RunError, lines_append, lines_one, Settled, tree_of_settled, profile_of}
use Rattle.kmin_tidy.specs.Runs.{DoneFile, status_of, status_with}
use Rattle.kmin_tidy.specs.Ends.{Ends, whole, part, stopped, Stops, before_write, at_write, at_left}
use Rattle.kmin_tidy.specs.declared.outcome.FileOutcome.{FileOutcome}
use Rattle.kmin_tidy.specs.declared.outcome.FileOutcome.TheVariants.{Minimal, NotMinimal, Refused, Failed}
use Rattle.kmin_tidy.specs.Promises.{IsKeptOrLeft, AreTidy}
use Rattle.kmin_trees.specs.Stops.{StopsAtTree}
use Rattle.kmin_run.specs.TidyRuns.{AreListBytes, AreNamed, AreMalformed, StopsAtList, malformed, PathsEnd, at_tree, over_files, GoesOver, TidyEnds, over_paths, is_ended_by_nul, listed_paths, options_of, run_settings}
use Rattle.kmin_report.specs.between.RunErrors as errors
use Rattle.kmin_lines.specs.Lists.{paths_in}
use Rattle.kmin_tidy.specs.declared.options.TidyOptions.{TidyOptions}
use Rattle.kmin_options.specs.declared.job.TidyFlags.{TidyFlags}
use Rattle.kmin_options.specs.Jobs as jobs
use Rattle.kmin_options.specs.Jobs.{TidyJob}
use Rattle.kc_dotconfig_model.specs.declared.format.Format.{Format}
use Rattle.kc_dotconfig_model.specs.between.Formats.{file_format}

-- a status of files: 0, 1, 4 or 5
abbrev IsOfFiles : ℕ → Type 0
IsOfFiles n = (n ≡ 0) ⊎ ((n ≡ 1) ⊎ ((n ≡ 4) ⊎ (n ≡ 5)))

with_one : (n : ℕ) → IsOfFiles n → IsOfFiles (max 1 n)
with_one n (inl e) = rw e (inr (inl refl))
with_one n (inr (inl e)) = rw e (inr (inl refl))
with_one n (inr (inr (inl e))) = rw e (inr (inr (inl refl)))
with_one n (inr (inr (inr e))) = rw e (inr (inr (inr refl)))

with_outcome : (outcome : FileOutcome) (rest : ℕ) → IsOfFiles rest → IsOfFiles (status_with outcome rest)
with_outcome Minimal rest h = h
with_outcome NotMinimal rest h = with_one rest h
with_outcome Refused rest h = inr (inr (inl refl))
with_outcome Failed rest h = inr (inr (inr refl))

of_files : (files : List DoneFile) → IsOfFiles (status_of files)
of_files [] = inl refl
of_files (done ∷ files) = with_outcome done.1 (status_of files) (of_files files)

small : (n : ℕ) → IsOfFiles n → n ≤ 6
small n (inl e) = omega arith
small n (inr (inl e)) = omega arith
small n (inr (inr (inl e))) = omega arith
small n (inr (inr (inr e))) = omega arith

module _ (s : TidySettings) (old new : Disk) (paths : List (List ℕ)) (reports : List ErrorLine) (status : ℕ) where
  stops_small : Stops s old new paths reports status → status ≤ 6
  stops_small (before_write between front back text earlier made p t n r e) = omega arith
  stops_small (at_write between front back path text earlier made p t b u r e) = omega arith
  stops_small (at_left between front back path new_path text earlier made p t b l r e) = omega arith

  -- the exit status of a run over files is at most 6
  pub ends_small : (taken taken_after : Option (List ℕ)) (failed failed_after : ℕ) → Ends s old new paths taken taken_after failed failed_after reports status
      → status ≤ 6
  ends_small taken taken_after failed failed_after (whole text t a f) = rw t.status_is (small (status_of t.files) (of_files t.files))
  ends_small taken taken_after failed failed_after (part text earlier made count t c a f r e) = omega arith
  ends_small taken taken_after failed failed_after (stopped k a f) = stops_small k

  -- a run over files with another exit status than 0, 1, 4 or 5 writes nothing to standard output
  pub ends_unwritten : (taken taken_after : Option (List ℕ)) (failed failed_after : ℕ)
      → Ends s old new paths taken taken_after failed failed_after reports status
      → status ≢ 0 → status ≢ 1 → status ≢ 4 → status ≢ 5 → taken_after ≡ taken
  ends_unwritten taken taken_after failed failed_after (whole text t a f) n0 n1 n4 n5 = elim (of_files t.files) [
    | inl e ↦ absurd (n0 (t.status_is ∙ e))
    | inr (inl e) ↦ absurd (n1 (t.status_is ∙ e))
    | inr (inr (inl e)) ↦ absurd (n4 (t.status_is ∙ e))
    | inr (inr (inr e)) ↦ absurd (n5 (t.status_is ∙ e))
  ]
  ends_unwritten taken taken_after failed failed_after (part text earlier made count t c a f r e) n0 n1 n4 n5 = absurd (n5 e)
  ends_unwritten taken taken_after failed failed_after (stopped k a f) n0 n1 n4 n5 = a

-- the settings of a run of `tidy_files` over a settled tree are those of the command `tidy` over that tree
pub settings_are : (settled : Settled) (format : Format) (settings : jobs.Settings) (flags : TidyFlags) (options : TidyOptions)
    → profile_of settled ≡ settings.profile → file_format format ≡ settings.format → options ≡ options_of settings flags
    → settings_of settled format options ≡ run_settings settings flags (tree_of_settled settled)
settings_are settled format settings flags options p q o =
    ap (λ p. record { format = file_format format; profile = p; tree = tree_of_settled settled; options = options }) p
    ∙ ap (λ q. record { format = q; profile = settings.profile; tree = tree_of_settled settled; options = options }) q
    ∙ ap (λ o. record { format = settings.format; profile = settings.profile; tree = tree_of_settled settled; options = o }) o

module _ (taken middle taken_after : SpelledBytes) (failed failed_middle failed_after : ℕ) (status : ℕ) where
  -- a run of `tidy` that ended at its tree, and then reported its last line, ends as `PathsEnd` defines
  pub tree_ends : (known : Surroundings) (counted counted_after : ℕ) (settings : jobs.Settings) (flags : TidyFlags) (paths : List (List ℕ)) (old : Outputs) (stop : RunError)
      → status ≡ errors.status_of stop
      → (lines : List ErrorLine) × StopsAtTree known counted counted_after settings (errors.status_of stop) lines × TakesLines taken failed lines middle failed_middle
      → TakesLines middle failed_middle (last_lines status) taken_after failed_after
      → (lines : List ErrorLine) × PathsEnd known counted counted_after settings flags paths old old lines status × TakesLines taken failed lines taken_after failed_after
  tree_ends known counted counted_after settings flags paths old stop e w h = (
    w.0 ++ last_lines status,
    at_tree w.0 (subst (λ n. StopsAtTree known counted counted_after settings n w.0) (sym e) w.1) refl refl,
    lines_append taken middle failed failed_middle w.0 (last_lines status) taken_after failed_after w.2 h,
  )

  -- a run of `tidy` whose tree was accepted, and whose files `tidy_files` went over, ends as `PathsEnd` defines
  pub went_over : (known : Surroundings) (counted counted_after : ℕ) (settings : jobs.Settings) (flags : TidyFlags) (settled : Settled) (format : Format) (options : TidyOptions)
      (paths : List (List ℕ)) (old new : Outputs)
      → profile_of settled ≡ settings.profile → file_format format ≡ settings.format → options ≡ options_of settings flags
      → (t : TreeTexts) × AreTextsOfJob known settings t × AreAccepted t.texts settings.tree (tree_of_settled settled)
      × TakesLines taken failed t.lines middle failed_middle
      → (reports : List ErrorLine) × Ends (settings_of settled format options) old.disk new.disk paths old.taken new.taken old.failures new.failures
      reports status
      × TakesLines middle failed_middle reports taken_after failed_after
      → ((place : List ℕ) → IsKeptOrLeft (settings_of settled format options) (old.disk.state.history place) (new.disk.state.history place))
      → (AreTidy (settings_of settled format options) old.disk.state paths → new.disk.state ≡ old.disk.state)
      → (AreTidy (settings_of settled format options) old.disk.state paths → Appends old.taken new.taken [])
      → (lines : List ErrorLine) × PathsEnd known counted counted_after settings flags paths old new lines status × TakesLines taken failed lines taken_after failed_after
  went_over known counted counted_after settings flags settled format options paths old new p q o accepted ends became again silent =
      let run : GoesOver (settings_of settled format options) old new paths ends.0 status =
      record { ends = ends.1; became = became; again = again; silent = silent } in
      let same = settings_are settled format settings flags options p q o in (
        accepted.0.lines ++ ends.0,
        over_files accepted.0 (tree_of_settled settled) ends.0 accepted.1 accepted.2
            (subst (λ (s : TidySettings). GoesOver s old new paths ends.0 status) same run) refl,
        lines_append taken middle failed failed_middle accepted.0.lines ends.0 taken_after failed_after accepted.3 ends.2,
      )

  -- a run of `tidy` that ended at its list, and then reported its last line, ends as `TidyEnds` defines
  pub list_ends : (known : Surroundings) (counted counted_after : ℕ) (left : Option (List ℕ)) (t : TidyJob) (old : Outputs) (stop : RunError)
      → status ≡ errors.status_of stop
      → (lines : List ErrorLine) × StopsAtList known.content left t.list (errors.status_of stop) lines × TakesLines taken failed lines middle failed_middle
      → TakesLines middle failed_middle (last_lines status) taken_after failed_after
      → (lines : List ErrorLine) × TidyEnds known counted counted_after left t old old lines status × TakesLines taken failed lines taken_after failed_after
  list_ends known counted counted_after left t old stop e w h = (
    w.0 ++ last_lines status,
    at_list w.0 (subst (λ n. StopsAtList known.content left t.list n w.0) (sym e) w.1) refl refl,
    lines_append taken middle failed failed_middle w.0 (last_lines status) taken_after failed_after w.2 h,
  )

  -- a run of `tidy` that read its list without a report ends as the rest of the run does
  pub read_before : (known : Surroundings) (counted counted_after : ℕ) (left : Option (List ℕ)) (t : TidyJob) (bytes : List ℕ) (old new : Outputs)
      → AreListBytes known.content left t.list bytes → TakesLines taken failed [] middle failed_middle
      → (AreListBytes known.content left t.list bytes
      → (lines : List ErrorLine) × TidyEnds known counted counted_after left t old new lines status × TakesLines middle failed_middle lines taken_after failed_after)
      → (lines : List ErrorLine) × TidyEnds known counted counted_after left t old new lines status × TakesLines taken failed lines taken_after failed_after
  read_before known counted counted_after left t bytes old new b before h =
      let ended = h b in (ended.0, ended.1, lines_append taken middle failed failed_middle [] ended.0 taken_after failed_after before ended.2)

-- a run of `tidy` that reported a malformed path in its list, and ended with the status 2, ends as `TidyEnds` defines
pub malformed_ends : (taken taken_after : SpelledBytes) (failed failed_after status : ℕ) (known : Surroundings) (counted counted_after : ℕ) (left : Option (List ℕ)) (t : TidyJob)
    (bytes : List ℕ) (old : Outputs) → AreListBytes known.content left t.list bytes → AreMalformed (listed_paths t.list bytes) → status ≡ 2
    → TakesLine taken failed malformed_line taken_after failed_after
    → (lines : List ErrorLine) × TidyEnds known counted counted_after left t old old lines status × TakesLines taken failed lines taken_after failed_after
malformed_ends taken taken_after failed failed_after status known counted counted_after left t bytes old b m e h = (
  malformed_line ∷ [],
  at_list (malformed_line ∷ []) (malformed bytes b m e refl) (rw e refl) refl,
  lines_one taken taken_after failed failed_after malformed_line h,
)

-- a run of `tidy` over its files and the paths in its list, as one list of paths, ends as `TidyEnds` defines
pub over_all : (known : Surroundings) (counted counted_after : ℕ) (left : Option (List ℕ)) (t : TidyJob) (bytes : List ℕ) (old new : Outputs) (lines : List ErrorLine) (status : ℕ)
    (ended_by_nul : Bool) (files paths : List (List ℕ)) → ended_by_nul ≡ is_ended_by_nul t.list → files ≡ t.files
    → AreListBytes known.content left t.list bytes → AreNamed (paths_in ended_by_nul bytes) → paths ≡ files ++ paths_in ended_by_nul bytes
    → PathsEnd known counted counted_after t.settings t.flags paths old new lines status → TidyEnds known counted counted_after left t old new lines status
over_all known counted counted_after left t bytes old new lines status ended_by_nul files paths e f b n p h =
    let all : paths ≡ t.files ++ listed_paths t.list bytes =
    p ∙ ap (λ files. files ++ paths_in ended_by_nul bytes) f ∙ ap (λ ended. t.files ++ paths_in ended bytes) e in
    over_paths bytes b (subst (λ ended. AreNamed (paths_in ended bytes)) e n)
    (subst (λ paths. PathsEnd known counted counted_after t.settings t.flags paths old new lines status) all h)

-- of two facts, one of which holds with a flag and the other without it, one holds
pub by_asking : {P Q : Type 0} (write : Bool) → (write ≡ false → P) → (write ≡ true → Q) → P ⊎ Q
by_asking true stays asked = inr (asked refl)
by_asking false stays asked = inl (stays refl)

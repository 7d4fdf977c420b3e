-- A command is refused with the refusal of its options.
use Rattle.std.proofs.Common.{◌≡◌, ℕ, List, Option, Result, Ok, Err, codes, ap, sym, ◌∙◌}
use Rattle.clap.specs.declared.parser.matches.Found.{Found}
use Rattle.kmin_options.specs.declared.job.Settings.{Settings as DeclaredSettings}
use Rattle.kmin_options.specs.declared.job.TidyJob.{TidyJob as DeclaredTidyJob}
use Rattle.kmin_options.specs.declared.refusal.Refusal.{Refusal}
use Rattle.kmin_options.specs.declared.refusal.Refusal.TheVariants.{Words, OutOfMemory}
use Rattle.kmin_options.specs.Jobs.{Settings, PathList, TidyJob, settings_view, tidy_job_view}
use Rattle.kmin_options.specs.between.OptionValues.{ValueResult, and_then, values_of}
use Rattle.kmin_cli.specs.between.WordValues.{flags_of, list_of, one_line_paths, paths_read, settings_of, tidy_job_of}
use Rattle.kmin_options.specs.between.Refusals.{Agrees}

abbrev made : Found → List (List ℕ) → Settings → ValueResult TidyJob
made found files settings = Ok (record { settings = settings; flags = flags_of found; list = list_of found; files = files })

-- a refusal of the options of `tidy` is the refusal of the whole command
pub refused_beside : (found : Found) (named : List (List ℕ)) (list : Option PathList) (result : Result DeclaredSettings Refusal) (refusal : Refusal)
    → one_line_paths (values_of found (codes "FILE")) ≡ Ok named → list ≡ list_of found → result ≡ Err refusal
    → Agrees settings_view (settings_of found (paths_read named list)) result
    → (whole : Result DeclaredTidyJob Refusal) → whole ≡ Err refusal → Agrees tidy_job_view (tidy_job_of found) whole
refused_beside found named list result (Words line) o l r h whole w =
    let refused : settings_of found (paths_read named list) ≡ Err line.now = rw r at h in
    let all : tidy_job_of found ≡ Err line.now =
    ap (λ files. and_then files (λ files. and_then (settings_of found (paths_read files (list_of found))) (made found files))) o
    ∙ ap (λ l. and_then (settings_of found (paths_read named l)) (made found named)) (sym l)
    ∙ ap (λ s. and_then s (made found named)) refused in
    rw w all
refused_beside found named list result OutOfMemory o l r h whole w = rw w tt

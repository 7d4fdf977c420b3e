-- A command that gives reasons is refused with the refusal of its options.
use Rattle.std.proofs.Common.{◌≡◌, ℕ, List, Result, Ok, Err, ap, sym, ◌∙◌}
use Rattle.std.specs.Prelude.{codes}
use Rattle.clap.specs.declared.parser.matches.Found.{Found}
use Rattle.kmin_options.specs.declared.job.Settings.{Settings as DeclaredSettings}
use Rattle.kmin_options.specs.declared.job.ExplainJob.{ExplainJob as DeclaredExplainJob}
use Rattle.kmin_options.specs.declared.refusal.Refusal.{Refusal}
use Rattle.kmin_options.specs.declared.refusal.Refusal.TheVariants.{Words, OutOfMemory}
use Rattle.kmin_options.specs.Jobs.{ExplainJob, Question, Settings, explain, explain_job_view, settings_view}
use Rattle.kmin_options.specs.between.OptionValues.{ValueResult, and_then, values_of}
use Rattle.kmin_options.specs.between.Refusals.{Agrees}
use Rattle.kmin_cli.specs.between.WordValues.{explain_flags_of, explain_job_of, explained_files_of, names_of, question_of, question_job_of, settings_of}

abbrev made : Question → List (List ℕ) → Settings → ValueResult ExplainJob
made question files settings = Ok (record { settings = settings; question = question; files = files })

-- a refusal of the options is the refusal of the whole command
pub explain_refused : (found : Found) (files : List (List ℕ)) (result : Result DeclaredSettings Refusal) (refusal : Refusal)
    → files ≡ explained_files_of found → result ≡ Err refusal → Agrees settings_view (settings_of found files) result
    → (whole : Result DeclaredExplainJob Refusal) → whole ≡ Err refusal → Agrees explain_job_view (explain_job_of found) whole
explain_refused found files result (Words line) same r h whole w =
    let refused : settings_of found files ≡ Err line.now = rw r at h in
    let all : explain_job_of found ≡ Err line.now =
    sym (ap (λ these. and_then (settings_of found these) (made (explain (explain_flags_of found) (names_of found)) these)) same)
    ∙ ap (λ s. and_then s (made (explain (explain_flags_of found) (names_of found)) files)) refused in
    rw w all
explain_refused found files result OutOfMemory same r h whole w = rw w tt

-- and so it is of `missed` and `check`
pub question_refused : (name : List ℕ) (found : Found) (files : List (List ℕ)) (result : Result DeclaredSettings Refusal) (refusal : Refusal)
    → files ≡ values_of found (codes "FILE") → result ≡ Err refusal → Agrees settings_view (settings_of found files) result
    → (whole : Result DeclaredExplainJob Refusal) → whole ≡ Err refusal → Agrees explain_job_view (question_job_of name found) whole
question_refused name found files result (Words line) same r h whole w =
    let refused : settings_of found files ≡ Err line.now = rw r at h in
    let all : question_job_of name found ≡ Err line.now =
    sym (ap (λ these. and_then (settings_of found these) (made (question_of name found) these)) same) ∙ ap (λ s. and_then s (made (question_of name found) files)) refused in
    rw w all
question_refused name found files result OutOfMemory same r h whole w = rw w tt

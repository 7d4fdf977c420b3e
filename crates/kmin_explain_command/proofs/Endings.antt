-- `explain` as a whole: its output with all lines of standard error, or where it ends.
use Rattle.kmin_explain_command.proofs.Common.{◌≡◌, ℕ, List, [], ◌∷◌, ◌++◌, Option, Result, Ok, Err, IfOk, IfErr, inl, inr, refl, sym, subst, append_assoc, append-nil, tree_of_settled, ErrorLine, refused_line, SpelledBytes, TakesLines, RunError, status_of, lines_append, TreeTexts, IsLinedTree}
use Rattle.kmin_explain_command.proofs.Common.{LinedTree, JobOutput, StopsOverTree, task_of, ExplainsOver, StopsOver}
use Rattle.kmin_options.specs.Jobs.{ExplainJob}
use Rattle.kmin_inputs.specs.FileContents.{Surroundings}
use Rattle.kmin_report.specs.Reports.{last_lines, output_line}
use Rattle.kmin_expansions.specs.JobTexts.{AreTextsOfJob}
use Rattle.kmin_outputs.specs.Stops.{StopsBefore, among_files, at_choices}
use Rattle.kmin_explain_command.specs.Explains.{Explains}
use Rattle.kmin_explain_command.specs.Stops.{StopsExplaining, unknown_text}
use Rattle.kmin_explain_command.specs.Stops as stops
use Rattle.kmin_explain_command.specs.between.Ends as ends

-- over a tree of the job
module _ (known : Surroundings) (job : ExplainJob) (tree : LinedTree) (t : TreeTexts) (are : AreTextsOfJob known job.settings t)
    (lined : IsLinedTree t job.settings.tree tree) (taken middle after : SpelledBytes) (failed failed_middle failed_after : ℕ)
    (before : TakesLines taken failed t.lines middle failed_middle) where
  pub job_outputs : (r : Result JobOutput RunError)
      → IfOk r (λ output. ExplainsOver known.content job tree output.text.items output.status middle failed_middle after failed_after)
      → IfOk r (λ output. (t : TreeTexts) × (lines : List ErrorLine) × AreTextsOfJob known job.settings t
      × Explains known.content job t output.text.items output.status lines × TakesLines taken failed lines after failed_after)
  job_outputs (Err stop) h = tt
  job_outputs (Ok output) h = (
    t,
    t.lines ++ h.own,
    are,
    h.explains t lined,
    lines_append taken middle failed failed_middle t.lines h.own after failed_after before h.reported,
  )

  either : (counted counted_after status : ℕ) (own : List ErrorLine) → StopsOverTree known.content job.settings (tree_of_settled tree.settled) (task_of job) status own
      → StopsBefore known counted counted_after job.settings (task_of job) status (t.lines ++ own)
  either counted counted_after status own (inl k) = among_files t (tree_of_settled tree.settled) own are lined.accepted k refl
  either counted counted_after status own (inr k) = at_choices t (tree_of_settled tree.settled) own are lined.accepted k refl

  stops_of : (counted counted_after status : ℕ) → StopsOver known.content job tree status middle failed_middle after failed_after
      → (lines : List ErrorLine) × StopsExplaining known counted counted_after job status lines × TakesLines taken failed lines after failed_after
  stops_of counted counted_after status (ends.before_output own k h) = (
    t.lines ++ own,
    stops.before_output (either counted counted_after status own k),
    lines_append taken middle failed failed_middle t.lines own after failed_after before h,
  )
  stops_of counted counted_after status (ends.at_name own name near refuses four h) = (
    (t.lines ++ own) ++ refused_line (unknown_text name near) ∷ [],
    stops.at_name t name near (t.lines ++ own) are (refuses t lined) four refl,
    subst (λ ls. TakesLines taken failed ls after failed_after) (sym (append_assoc t.lines own (refused_line (unknown_text name near) ∷ [])))
        (lines_append taken middle failed failed_middle t.lines _ after failed_after before h),
  )

  pub job_stops : (counted counted_after : ℕ) (r : Result JobOutput RunError)
      → IfErr r (λ stop. StopsOver known.content job tree (status_of stop) middle failed_middle after failed_after)
      → IfErr r (λ stop. (lines : List ErrorLine) × StopsExplaining known counted counted_after job (status_of stop) lines × TakesLines taken failed lines after failed_after)
  job_stops counted counted_after (Ok output) h = tt
  job_stops counted counted_after (Err stop) h = stops_of counted counted_after (status_of stop) h

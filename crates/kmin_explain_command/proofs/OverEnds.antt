-- The output of `explain` over its tree, or its end, once its files were read.
use Rattle.kmin_explain_command.proofs.Common.{◌≡◌, ℕ, List, [], ◌∷◌, ◌++◌, Option, Result, Ok, Err, IfOk, IfErr, inl, refl, sym, subst, arith, Group, Settled, tree_of_settled, profile_of, empty_assignment, LineMeaning, other_choices, file_format, IsSolved, tree_in, FileContent, explain_job_view}
use Rattle.kmin_explain_command.proofs.Common.{settings_view, ExplainJob, ErrorLine, refused_line, SpelledBytes, TakesLines, RunError, status_of, lines_append, LinedTree, StopsAmongFiles, JobOutput, AreNoticed, lists_of, StopsOverTree, IsExplained, task_of, ExplainsOver, StopsOver, AreLined}
use Rattle.kmin_explain_command.proofs.Common.{AreOfSources, StopsAfterFiles, paths_of_job, sources_of, LinedFiles}
use Rattle.kmin_options.specs.declared.job.Verb.TheVariants.{Min}
use Rattle.kmin_report.specs.Reports.{notice_lines, choice_notice_lines}
use Rattle.kmin_outputs.proofs.ReadFailures.{noticing_unfailed}
use Rattle.kmin_outputs.proofs.JobOutputs.{noticed_are, stopped_noticing, stopped_after}
use Rattle.kmin_explain_command.specs.between.Ends as ends
use Rattle.kmin_explain_command.specs.between.Texts as after_files
use Rattle.kmin_explain_command.proofs.SourceParts.{are_of_sources, are_sources}

module _ (content_of : List ℕ → FileContent) (job : ExplainJob) (tree : LinedTree) (found : LinedFiles) (taken middle after : SpelledBytes)
    (failed failed_middle failed_after : ℕ)
    (same : found.read.config.system ≡ tree.settled) (p : profile_of tree.settled ≡ job.settings.profile) (s : IsSolved found.read.config)
    (l : AreLined content_of (file_format job.settings.format) job.settings.strict (tree_of_settled tree.settled) (paths_of_job job)
    (empty_assignment (tree_of_settled tree.settled)) found.read.config.users [] (lists_of found.read.chosen.items) [] found.lines.items
    taken failed middle failed_middle) where
  -- the notices of the files' lines and on the choices
  abbrev notices : List ErrorLine
  notices = notice_lines (tree_in found.read.config) (paths_of_job job) l.read.loaded.meanings
      ++ choice_notice_lines (paths_of_job job) (other_choices (tree_in found.read.config) found.read.config.values l.read.loaded.meanings)

  noted : (to : SpelledBytes) (failed_to : ℕ) → AreNoticed job.settings.strict (paths_of_job job) found.read middle failed_middle to failed_to
      → TakesLines taken failed notices to failed_to
  noted to failed_to n =
      lines_append taken middle failed failed_middle _ _ to failed_to
      (subst (λ (sys : Settled). TakesLines taken failed (notice_lines (tree_of_settled sys) (paths_of_job job) l.read.loaded.meanings) middle failed_middle)
      (sym same) l.read.loaded.reported)
      (subst (λ (sys : Settled). TakesLines middle failed_middle (choice_notice_lines (paths_of_job job) (other_choices (tree_of_settled sys) found.read.config.values l.read.loaded.meanings)) to failed_to)
      (sym same)
      (noticed_are content_of (settings_view job.settings) found.read.config tree.settled (paths_of_job job) (lists_of found.read.chosen.items) taken middle
      failed failed_middle same l.read middle to failed_middle failed_to n.noticed))

  explains_of : (text : List ℕ) (status : ℕ)
      → ((read : List Group) (meanings : List (List LineMeaning)) → AreOfSources tree found read meanings
      → IsExplained (explain_job_view job) (sources_of job tree found read meanings) text status)
      → AreNoticed job.settings.strict (paths_of_job job) found.read middle failed_middle after failed_after
      → ExplainsOver content_of (explain_job_view job) tree text status taken failed after failed_after
  explains_of text status h n = record {
    own = notices;
    explains = λ t lined. record {
      sources = sources_of job tree found lined.lines.groups l.read.loaded.meanings;
      are = are_sources content_of job tree found taken middle after failed failed_middle failed_after same p s l n t lined;
      explained = h lined.lines.groups l.read.loaded.meanings
          (are_of_sources content_of job tree found taken middle after failed failed_middle failed_after same p s l n t lined);
      lines_are = refl;
    };
    reported = noted after failed_after n;
  }

  pub explains_over : (r : Result JobOutput RunError)
      → IfOk r (λ output. (read : List Group) (meanings : List (List LineMeaning)) → AreOfSources tree found read meanings
      → IsExplained (explain_job_view job) (sources_of job tree found read meanings) output.text.items output.status)
      → IfOk r (λ output. AreNoticed job.settings.strict (paths_of_job job) found.read middle failed_middle after failed_after)
      → IfOk r (λ output. ExplainsOver content_of (explain_job_view job) tree output.text.items output.status taken failed after failed_after)
  explains_over (Err stop) h n = tt
  explains_over (Ok output) h n = explains_of output.text.items output.status h n

  by_lines : (status : ℕ) → (lines : List ErrorLine)
      × StopsOverTree content_of (settings_view job.settings) (tree_of_settled tree.settled) (task_of (explain_job_view job)) status lines
      × TakesLines taken failed lines after failed_after
      → StopsOver content_of (explain_job_view job) tree status taken failed after failed_after
  by_lines status w = ends.before_output w.0 w.1 w.2

  stops_of : (status : ℕ) → StopsAfterFiles job tree found status middle failed_middle after failed_after
      → StopsOver content_of (explain_job_view job) tree status taken failed after failed_after
  stops_of status (after_files.at_choices n) =
      by_lines status (stopped_noticing content_of (settings_view job.settings) Min found.read.config tree.settled (paths_of_job job)
      (lists_of found.read.chosen.items) taken middle failed failed_middle same p s l.read status after failed_after n)
  stops_of status (after_files.at_name between failed_between name near n unknown t four) =
      ends.at_name notices name near
      (λ texts lined. record {
        sources = sources_of job tree found lined.lines.groups l.read.loaded.meanings;
        are = are_sources content_of job tree found taken middle between failed failed_middle failed_between same p s l n texts lined;
        unknown = unknown lined.lines.groups l.read.loaded.meanings;
        lines_are = refl;
      }) four
      (lines_append taken between failed failed_between notices _ after failed_after (noted between failed_between n) t)
  stops_of status (after_files.for_memory n six) =
      by_lines status (stopped_after content_of (settings_view job.settings) Min found.read.config tree.settled (paths_of_job job)
      (lists_of found.read.chosen.items) taken middle failed failed_middle same p s l.read status after failed_after six n.allowed n.noticed)

  pub stops_over : (r : Result JobOutput RunError) → IfErr r (λ stop. StopsAfterFiles job tree found (status_of stop) middle failed_middle after failed_after)
      → IfErr r (λ stop. StopsOver content_of (explain_job_view job) tree (status_of stop) taken failed after failed_after)
  stops_over (Ok output) h = tt
  stops_over (Err stop) h = stops_of (status_of stop) h

-- a run that ended among its files
pub stops_among : (content_of : List ℕ → FileContent) (job : ExplainJob) (tree : LinedTree) (status : ℕ) (taken after : SpelledBytes) (failed failed_after : ℕ)
    → (lines : List ErrorLine) × StopsAmongFiles content_of (file_format job.settings.format) job.settings.strict (tree_of_settled tree.settled) (paths_of_job job)
    status lines × TakesLines taken failed lines after failed_after
    → StopsOver content_of (explain_job_view job) tree status taken failed after failed_after
stops_among content_of job tree status taken after failed failed_after w = ends.before_output w.0 (inl w.1) w.2

-- it doesn't end with the status of a failure once its files were read
pub unfailed : (job : ExplainJob) (tree : LinedTree) (found : LinedFiles) (status : ℕ) (taken after : SpelledBytes) (failed failed_after : ℕ)
    → StopsAfterFiles job tree found status taken failed after failed_after → status ≡ 5 → ⊥
unfailed job tree found status taken after failed failed_after (after_files.at_choices n) five =
    noticing_unfailed _ _ _ _ _ status taken after failed failed_after n five
unfailed job tree found status taken after failed failed_after (after_files.at_name between failed_between name near n unknown t four) five = omega arith
unfailed job tree found status taken after failed failed_after (after_files.for_memory n six) five = omega arith

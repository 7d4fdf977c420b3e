use Rattle.kmin_inputs.proofs.Common.{◌≡◌, ◌∷◌, [], ℕ, List, get_or, refl, ap, ◌∙◌, subst, take, arith, rules, Bor, take_all, Surroundings, FilesRecord, none, lines_append, if_err, paths_next, paths_at}
use Rattle.kmin_inputs.specs.JobAnswers as answers
use Rattle.kmin_inputs.proofs.FailureCounts.{rises_later}
use Rattle.kmin_inputs.proofs.AnswerFileLists.{record_append, stopped_later}
use Rattle.kmin_inputs.proofs.answers.file_answers.Goals as goal

pub loop-path-init : goal.loop-path-init
loop-path-init g c = record { same = refl; rising = omega arith; recorded = rw c.new-answers.ensures (answers.none []); reported = none }

pub loop-path-preserved : goal.loop-path-preserved
loop-path-preserved g c =
    let absent : Bor (List ℕ) = record { ref_ptr = (0, 0); now = [] } in
    let k = c.loop-path.path-index in
    let path = get_or c.args.paths.now k absent in
    let content = ap (λ (known : Surroundings). known.content) c.loop-path.invariant.same in
    record {
      same = c.record_path.ensures.same ∙ c.loop-path.invariant.same;
      rising = omega (arith, c.record_path.ensures.rising, c.loop-path.invariant.rising);
      recorded = rw (paths_next c.args.paths.now k absent (search rules))
          (record_append _ _ (path.now ∷ []) _ _ _ c.loop-path.invariant.recorded
          (subst (λ content. FilesRecord content (path.now ∷ []) c.loop-path.answers c.record_path.new.answers) content c.in_ok-record_path.ensures.recorded));
      reported = lines_append _ _ _ _ [] [] _ _ c.loop-path.invariant.reported c.in_ok-record_path.ensures.unreported;
    }

pub returns-in_err-record_path-clause-stopped : goal.returns-in_err-record_path-clause-stopped
returns-in_err-record_path-clause-stopped g c =
    let absent : Bor (List ℕ) = record { ref_ptr = (0, 0); now = [] } in
    let k = c.loop-path.path-index in
    let path = get_or c.args.paths.now k absent in
    let content = ap (λ (known : Surroundings). known.content) c.loop-path.invariant.same in
    if_err c.from_residual.result c.in_err-record_path.field-0.0 _ (search rules)
    (stopped_later _ (g.F.Files.surroundings c.loop-path.files).content content _ _ _ path.now _ _ _ _ _ _ _ _
    (paths_at c.args.paths.now k absent (search rules)) c.loop-path.invariant.recorded c.loop-path.invariant.reported c.in_err-record_path.ensures.stopped)

pub returns-in_err-record_path-clause-failed : goal.returns-in_err-record_path-clause-failed
returns-in_err-record_path-clause-failed g c =
    if_err c.from_residual.result c.in_err-record_path.field-0.0 _ (search rules)
    (λ status. rises_later (g.F.Files.failures c.args.files.now) (g.F.Files.failures c.loop-path.files) (g.F.Files.failures c.record_path.new.files)
    c.loop-path.invariant.rising c.record_path.ensures.rising (c.in_err-record_path.ensures.failed status))

pub returns-clause-recorded : goal.returns-clause-recorded
returns-clause-recorded g c =
    let all : take c.loop-path.path-index c.args.paths.now ≡ c.args.paths.now = take_all c.loop-path.path-index c.args.paths.now (omega arith) in
    rw all at c.loop-path.invariant.recorded

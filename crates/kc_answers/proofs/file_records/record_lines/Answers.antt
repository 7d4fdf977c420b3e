use Rattle.kc_answers.proofs.Common.{◌∙◌, ap, inl, inr, ⊎_elim, arith, ◌+◌, ◌≤◌, MAX_ANSWER_LINES, recorded_from, end_of_file, bytes_of, lines_view}
use Rattle.std.proofs.lemmas.Result.{err_from_is_err_and}
use Rattle.kc_answers.proofs.RecordLemmas.{last_line_split, one_recorded, one_refused, begins_with}
use Rattle.kc_answers.proofs.file_records.record_lines.Goals as goal

pub returns-in_err-waiting-clause-err : goal.returns-in_err-waiting-clause-err
returns-in_err-waiting-clause-err c =
    let p = err_from_is_err_and c.from_residual.result c.from_residual.ensures.1 in
    rw (p.1, p.2) (⊎_elim (λ m. inl m)
    (λ h. inr (one_refused (end_of_file c.args.cut) (lines_view c.loop-at.count (bytes_of c.loop-at.waiting) c.loop-at.table) c.loop-at.rest.now c.in-Some.at
    c.in-Some.ensures _ _ c.loop-at.invariant.same h)) c.in_err-waiting.ensures.err)

pub loop-at-preserved : goal.loop-at-preserved
loop-at-preserved c =
    let few : c.loop-at.count + 1 ≤ MAX_ANSWER_LINES = omega (arith, c.in_ok-waiting.ensures.few) in
    record {
      few = few;
      same = one_recorded (end_of_file c.args.cut) (lines_view c.loop-at.count (bytes_of c.loop-at.waiting) c.loop-at.table) c.loop-at.rest.now c.in-Some.at
          c.in-Some.ensures _ _ c.loop-at.invariant.same c.in_ok-waiting.ensures.ok;
      extends = begins_with _ _ _ c.in_ok-waiting.ensures.extends c.loop-at.invariant.extends;
    }

pub returns-clause-ok : goal.returns-clause-ok
returns-clause-ok c =
    let e = c.loop-at.invariant.same ∙ ap (recorded_from (end_of_file c.args.cut) (lines_view c.loop-at.count (bytes_of c.loop-at.waiting) c.loop-at.table))
    (last_line_split c.loop-at.rest.now c.in_default.ensures) in
    simp e c.record_last.ensures.ok

pub returns-clause-err : goal.returns-clause-err
returns-clause-err c =
    let e = c.loop-at.invariant.same ∙ ap (recorded_from (end_of_file c.args.cut) (lines_view c.loop-at.count (bytes_of c.loop-at.waiting) c.loop-at.table))
    (last_line_split c.loop-at.rest.now c.in_default.ensures) in
    simp e c.record_last.ensures.err

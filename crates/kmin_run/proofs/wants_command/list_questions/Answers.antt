use Rattle.kmin_run.proofs.Common.{inl, inr, [], refl, sym, ◌∙◌, questions_view, lines_kept, StopsWanting}
use Rattle.kmin_expansions.specs.WantedQuestions.{at_write}
use Rattle.kmin_report.proofs.LastLines.{ends_by, ends_at_write}
use Rattle.kmin_run.proofs.wants_command.list_questions.Goals as goal

pub returns-clause-done : goal.returns-clause-done
returns-clause-done g c = λ e.
    let d = c.finish.ensures.done e in
    let w = rw d.1 at c.output_of_questions-output.ensures.output in
    (w.0, w.1, d.2 ∙ w.3, rw w.2 at d.3, lines_kept _ _ _ _ _ _ _ (rw d.1 at c.output_of_questions-output.ensures.unreported) d.4)

pub returns-clause-stopped : goal.returns-clause-stopped
returns-clause-stopped g c = λ e.
    let files = c.args.files.now in
    let Ends = StopsWanting (g.F.Files.surroundings files) (g.F.Files.failures files) (g.F.Files.failures c.output_of_questions-output.new.files)
    (questions_view c.args.questions.now) in
    elim (c.finish.ensures.stopped e) [
      | inl k ↦ let w = rw k.1 at c.output_of_questions-output.ensures.output in
          ends_at_write Ends c.finish.result _ _ _ _ _ _ [] k.2 (at_write w.0 w.1 k.2 refl) (rw k.1 at c.output_of_questions-output.ensures.unreported) k.3
      | inr k ↦ ends_by Ends c.finish.result _ _ _ _ _ _ k.0 k.2 (rw k.1 at c.output_of_questions-output.ensures.stopped) k.3
    ]

pub returns-clause-part : goal.returns-clause-part
returns-clause-part g c = λ e. elim (c.finish.ensures.part e) [
  | inl same ↦ inl same
  | inr k ↦ let w = rw k.1 at c.output_of_questions-output.ensures.output in inr (record {
    asked = w.0;
    are = w.1;
    written = k.2;
    part = rw w.2 at k.3;
    took = rw w.2 at k.4;
  })
]

pub returns-clause-failed : goal.returns-clause-failed
returns-clause-failed g c = λ e. elim (c.finish.ensures.failed e) [
  | inl rose ↦ inr rose
  | inr k ↦ inl ((rw k.1 at c.output_of_questions-output.ensures.failed) (sym k.2 ∙ e))
]

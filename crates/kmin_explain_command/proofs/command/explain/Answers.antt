use Rattle.kmin_explain_command.proofs.Common.{inl, inr, refl, sym, ◌∙◌, explain_job_view, lines_kept}
use Rattle.kmin_explain_command.specs.Stops.{StopsExplaining, at_write}
use Rattle.kmin_report.proofs.LastLines.{ends_by, ends_at_write}
use Rattle.kmin_explain_command.proofs.command.explain.Goals as goal

pub returns-clause-done : goal.returns-clause-done
returns-clause-done g c = λ e.
    let d = c.finish.ensures.done e in
    let w = rw d.1 at c.explained-output.ensures.output in
    (w.0, d.0.text.items, w.1, w.2, rw d.2 w.3, d.3, lines_kept _ _ _ _ _ _ w.1 w.4 d.4)

pub returns-clause-stopped : goal.returns-clause-stopped
returns-clause-stopped g c = λ e.
    let files = c.args.files.now in
    let Ends = StopsExplaining (g.F.Files.surroundings files) (g.F.Files.failures files) (g.F.Files.failures c.explained-output.new.files) (explain_job_view c.args.job.now) in
    elim (c.finish.ensures.stopped e) [
      | inl k ↦ let w = rw k.1 at c.explained-output.ensures.output in
          ends_at_write Ends c.finish.result _ _ _ _ _ _ w.1 k.2 (at_write w.0 k.0.text.items k.0.status w.1 w.2 w.3 k.2 refl) w.4 k.3
      | inr k ↦ ends_by Ends c.finish.result _ _ _ _ _ _ k.0 k.2 (rw k.1 at c.explained-output.ensures.stopped) k.3
    ]

pub returns-clause-part : goal.returns-clause-part
returns-clause-part g c = λ e. elim (c.finish.ensures.part e) [
  | inl same ↦ inl same
  | inr k ↦ let w = rw k.1 at c.explained-output.ensures.output in inr (record {
    read = w.0;
    are = w.2;
    text = k.0.text.items;
    status = k.0.status;
    lines = w.1;
    explains = w.3;
    written = k.2;
    part = k.3;
    took = k.4;
  })
]

pub returns-clause-failed : goal.returns-clause-failed
returns-clause-failed g c = λ e. elim (c.finish.ensures.failed e) [
  | inl rose ↦ inr rose
  | inr k ↦ inl ((rw k.1 at c.explained-output.ensures.failed) (sym k.2 ∙ e))
]

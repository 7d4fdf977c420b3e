use Rattle.kmin_explain_command.proofs.Common.{◌≡◌, None, ◌∙◌, ap, sym, subst, TreeModel, tree_model_of, tree_in, Tree, AreNoticed, no_value, with_error, explain_job_view, memory_err, status_of, unknown_for, paths_of_job, StopsAtName}
use Rattle.kmin_explain_command.specs.between.Texts.{at_choices, for_memory}
use Rattle.kmin_explain_command.proofs.TextEnds.{noticed_alone, name_stops_in, explained_by}
use Rattle.kmin_explain_command.proofs.texts.explained_files.Goals as goal

pub returns-in_err-notice_choices : goal.returns-in_err-notice_choices
returns-in_err-notice_choices g c =
    record {
      status = no_value c.from_residual.result _ _ c.from_residual.ensures.1;
      output = no_value c.from_residual.result _ _ c.from_residual.ensures.1;
      noticed = no_value c.from_residual.result _ _ c.from_residual.ensures.1;
      stopped = with_error c.from_residual.result _ _ c.from_residual.ensures.1 (at_choices (rw c.deref.ensures.value at c.in_err-notice_choices.ensures.stopped));
    }

pub returns-in_err-refuse_unknown : goal.returns-in_err-refuse_unknown
returns-in_err-refuse_unknown g c =
    let noticed : AreNoticed c.args.job.now.settings.strict (paths_of_job c.args.job.now) c.args.found.now.read (g.E.Messages.taken c.args.err.now)
    (g.E.Messages.failures c.args.err.now) (g.E.Messages.taken c.notice_choices.new.err) (g.E.Messages.failures c.notice_choices.new.err) = record { allowed = c.in_ok-notice_choices.ensures.allowed; noticed = rw c.deref.ensures.value at c.in_ok-notice_choices.ensures.noticed } in
    record {
      status = no_value c.from_residual-in_err-refuse_unknown.result _ _ c.from_residual-in_err-refuse_unknown.ensures.1;
      output = no_value c.from_residual-in_err-refuse_unknown.result _ _ c.from_residual-in_err-refuse_unknown.ensures.1;
      noticed = no_value c.from_residual-in_err-refuse_unknown.result _ _ c.from_residual-in_err-refuse_unknown.ensures.1;
      stopped = with_error c.from_residual-in_err-refuse_unknown.result _ _ c.from_residual-in_err-refuse_unknown.ensures.1
          (name_stops_in c.args.job.now c.args.tree.now c.args.found.now _ _ _ _ _ _ noticed c.tree-symbols.result.now.tree
          (ap (λ (m : TreeModel). m.tree) (c.tree-symbols.ensures.tree ∙ ap tree_model_of c.settled.ensures)) _ c.in_err-refuse_unknown.ensures.stopped);
    }

pub returns-in_err-text_of : goal.returns-in_err-text_of
returns-in_err-text_of g c =
    let noticed : AreNoticed c.args.job.now.settings.strict (paths_of_job c.args.job.now) c.args.found.now.read (g.E.Messages.taken c.args.err.now)
    (g.E.Messages.failures c.args.err.now) (g.E.Messages.taken c.notice_choices.new.err) (g.E.Messages.failures c.notice_choices.new.err) = record { allowed = c.in_ok-notice_choices.ensures.allowed; noticed = rw c.deref.ensures.value at c.in_ok-notice_choices.ensures.noticed } in
    record {
      status = no_value c.from_residual-in_err-text_of.result _ _ c.from_residual-in_err-text_of.ensures.1;
      output = no_value c.from_residual-in_err-text_of.result _ _ c.from_residual-in_err-text_of.ensures.1;
      noticed = no_value c.from_residual-in_err-text_of.result _ _ c.from_residual-in_err-text_of.ensures.1;
      stopped = memory_err _ _ c.from_residual-in_err-text_of.ensures (λ stop status.
          for_memory (noticed_alone c.args.job.now c.args.tree.now c.args.found.now _ _ _ _ _ _ noticed c.in_ok-refuse_unknown.ensures.unreported) status);
    }

pub returns : goal.returns
returns g c =
    let noticed : AreNoticed c.args.job.now.settings.strict (paths_of_job c.args.job.now) c.args.found.now.read (g.E.Messages.taken c.args.err.now)
    (g.E.Messages.failures c.args.err.now) (g.E.Messages.taken c.notice_choices.new.err) (g.E.Messages.failures c.notice_choices.new.err) = record { allowed = c.in_ok-notice_choices.ensures.allowed; noticed = rw c.deref.ensures.value at c.in_ok-notice_choices.ensures.noticed } in
    record {
      status = c.in_ok-text_of.ensures.status;
      output = λ read meanings are. explained_by c.args.job.now c.args.tree.now c.args.found.now read meanings _ _ (sym (ap (λ (t : TreeModel). unknown_for (explain_job_view c.args.job.now) t.tree) (c.tree-symbols.ensures.tree ∙ ap tree_model_of c.settled.ensures)) ∙ c.in_ok-refuse_unknown.ensures.known)
          (c.in_ok-text_of.ensures.output read meanings are);
      noticed = noticed_alone c.args.job.now c.args.tree.now c.args.found.now _ _ _ _ _ _ noticed c.in_ok-refuse_unknown.ensures.unreported;
      stopped = tt;
    }

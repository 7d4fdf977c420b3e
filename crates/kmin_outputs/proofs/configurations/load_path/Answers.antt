use Rattle.kmin_outputs.proofs.Common.{◌∙◌, map, refl, sym, subst, arith, Fragment, file_format, tree_of_settled, at_file, IsLoaded, status_of, if_ok_map, if_err_map}
use Rattle.kc_dotconfig.specs.Fragments.{FitsTree}
use Rattle.kc_dotconfig_model.specs.between.Notices.{notice_pair}
use Rattle.kmin_outputs.specs.Strictness.{AllowsNotices}
use Rattle.kmin_outputs.specs.Stops.{unopened}
use Rattle.kmin_inputs.proofs.FailureCounts.{closed_rises, rises_twice}
use Rattle.kmin_outputs.proofs.ReadFailures.{loading_rises}
use Rattle.kmin_outputs.proofs.Sequences.{loaded_from, stopped_at, stopped_noticed}
use Rattle.kmin_outputs.proofs.configurations.load_path.Goals as goal

pub returns-in-Ok : goal.returns-in-Ok
returns-in-Ok g c =
    let loaded = loaded_from _ _ _ _ _ _ c.in-Some.ensures.opens _ _ _ _ c.in-Ok.fragment c.in-Ok.ensures.ok c.in-Ok.ensures.notices in record {
      same = c.close.ensures.same ∙ c.reader_for.ensures.same;
      fits = if_ok_map c.allowed.result _ _ (λ f h. subst (λ (f : Fragment). FitsTree (tree_of_settled c.args.settled.now) f.assigns.items) (sym h.0) c.in-Ok.ensures.fits)
          c.allowed.ensures.ok;
      loaded = if_ok_map c.allowed.result _ _
          (λ f h. subst (λ (f : Fragment). IsLoaded ((g.F.Files.surroundings c.args.files.now).content c.args.path.now) (file_format c.args.settings.now.format)
          (tree_of_settled c.args.settled.now) c.args.path.now f (g.E.Messages.taken c.args.err.now) (g.E.Messages.failures c.args.err.now)
          (g.E.Messages.taken c.load-loaded.new.err) (g.E.Messages.failures c.load-loaded.new.err)) (sym h.0) loaded) c.allowed.ensures.ok;
      allowed = if_ok_map c.allowed.result _ _ (λ f h. subst (λ (f : Fragment). AllowsNotices c.args.settings.now.strict (map notice_pair f.notices.items)) (sym h.0) h.1)
          c.allowed.ensures.ok;
      stopped = if_err_map c.allowed.result _ _ (λ stop h. stopped_noticed _ _ c.args.settings.now.strict _ _ c.in-Ok.fragment (status_of stop) _ _ _ _ loaded h.1 h.2 h.0)
          c.allowed.ensures.refused;
      rising = rises_twice _ _ _ c.reader_for.ensures.rising c.close.ensures.rising;
      failed = if_err_map c.allowed.result _ _ (λ stop h. λ five. absurd (omega (arith, h.0))) c.allowed.ensures.refused;
    }

pub returns-in-Err : goal.returns-in-Err
returns-in-Err g c = record {
  same = c.close.ensures.same ∙ c.reader_for.ensures.same;
  fits = tt;
  loaded = tt;
  allowed = tt;
  stopped = stopped_at _ _ _ _ _ _ c.in-Some.ensures.opens _ _ _ _ _ _ _ _ c.in-Err.ensures.stopped;
  rising = rises_twice _ _ _ c.reader_for.ensures.rising c.close.ensures.rising;
  failed = λ five.
      closed_rises _ _ (g.F.Files.failures c.args.files.now) (g.F.Files.failures c.reader_for.new.self)
      (g.F.Files.failures c.close.new.self) c.in-Some.ensures.unread
      (loading_rises _ _ _ _ _ _ _ _ _ _ _ _ c.in-Err.ensures.stopped five) c.reader_for.ensures.rising c.close.ensures.failed
      c.close.ensures.rising;
}

pub returns-in-None : goal.returns-in-None
returns-in-None g c = record {
  same = c.reader_for.ensures.same;
  fits = tt;
  loaded = tt;
  allowed = tt;
  stopped = (_, at_file (unopened c.in-None.ensures.opens c.report_load_fault.ensures.status refl), c.report_load_fault.ensures.reported);
  rising = c.reader_for.ensures.rising;
  failed = λ five. c.in-None.ensures.failed;
}

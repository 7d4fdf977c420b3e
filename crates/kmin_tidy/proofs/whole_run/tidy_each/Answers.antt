use Rattle.std.proofs.Common.{suc, get_or, drop}
use Rattle.std.specs.Borrow.{Bor}
use Rattle.std.proofs.lemmas.List.{take_all}
use Rattle.kc_tree.specs.TreeModel.{TreeModel}
use Rattle.kmin_tidy.proofs.Common.{◌≡◌, ◌++◌, ◌<◌, [], ℕ, List, length, refl, sym, ap, subst, ◌∙◌, take, arith, rules, tree_of_settled, Settled, settings_of, Step, Tidies, paths_of, none, report_lines, StopsFile, lines_append}
use Rattle.kmin_tidy.proofs.WholeRuns.{tidies_none, tidies_more, stops_run}
use Rattle.kmin_report.proofs.Lists.{paths_next, paths_at}
use Rattle.kmin_report.proofs.Results.{if_err}
use Rattle.kmin_tidy.proofs.whole_run.tidy_each.Goals as goal

pub loop-path-init : goal.loop-path-init
loop-path-init g c =
    let s = settings_of c.args.config.now.system c.args.by.now.format.now c.args.by.now.options in
    let a = g.D.ReadDisk.disk c.args.disk.now in
    record {
      system = refl;
      ran = ([], subst (λ (t : List ℕ). Tidies s a a [] t [] 0) (sym c.new-text.ensures.items) (tidies_none s a), none);
    }

pub loop-path-preserved : goal.loop-path-preserved
loop-path-preserved g c =
    let system = c.args.config.now.system in
    let s = settings_of system c.args.by.now.format.now c.args.by.now.options in
    let a = g.D.ReadDisk.disk c.args.disk.now in
    let b = g.D.ReadDisk.disk c.loop-path.disk in
    let after = g.D.ReadDisk.disk c.tidy_file.new.disk in
    let absent : Bor (List ℕ) = record { ref_ptr = (0, 0); now = [] } in
    let i = c.loop-path.path-index in
    let path = (get_or c.args.paths.now i absent).now in
    let h : i < length c.args.paths.now = omega arith in
    let inv = c.loop-path.invariant in
    let report = c.in_ok-report.report in
    let own = report_lines s.tree path report in
    let same : c.tree.result.now.tree ≡ s.tree =
    ap (λ (m : TreeModel). m.tree) c.tree.ensures.tree ∙ ap tree_of_settled (c.settled.ensures ∙ c.in_ok-report.ensures.settled ∙ inv.system) in
    let step = c.in_ok-report.ensures.step in
    let own_step : Step s b after path step.0 own report.outcome =
    subst (λ (sys : Settled). Step (settings_of sys c.args.by.now.format.now c.args.by.now.options) b after path step.0 (report_lines (tree_of_settled sys) path report)
    report.outcome) inv.system step.2 in
    record {
      system = c.in_ok-report.ensures.settled ∙ inv.system;
      ran = (
        inv.ran.0 ++ own,
        tidies_more s a b after (paths_of (take i c.args.paths.now)) _ path c.loop-path.text.items step.0 _ inv.ran.0 own _ c.loop-path.status _ report.outcome
            inv.ran.1 own_step (paths_next c.args.paths.now i absent h) step.1 refl c.status_after-status.ensures,
        lines_append _ _ _ _ inv.ran.0 own _ _ inv.ran.2 (rw same at c.report_file.ensures),
      );
    }

pub returns-clause-run : goal.returns-clause-run
returns-clause-run g c =
    let all : take c.loop-path.path-index c.args.paths.now ≡ c.args.paths.now = take_all c.loop-path.path-index c.args.paths.now (omega arith) in
    rw all at c.loop-path.invariant.ran

pub returns-in_err-report-clause-stopped : goal.returns-in_err-report-clause-stopped
returns-in_err-report-clause-stopped g c =
    let system = c.args.config.now.system in
    let s = settings_of system c.args.by.now.format.now c.args.by.now.options in
    let a = g.D.ReadDisk.disk c.args.disk.now in
    let b = g.D.ReadDisk.disk c.loop-path.disk in
    let after = g.D.ReadDisk.disk c.tidy_file.new.disk in
    let absent : Bor (List ℕ) = record { ref_ptr = (0, 0); now = [] } in
    let i = c.loop-path.path-index in
    let path = (get_or c.args.paths.now i absent).now in
    let h : i < length c.args.paths.now = omega arith in
    let inv = c.loop-path.invariant in
    let stop = c.in_err-report.field-0.0 in
    let stopped : StopsFile s b after path stop =
    subst (λ (sys : Settled). StopsFile (settings_of sys c.args.by.now.format.now c.args.by.now.options) b after path stop) inv.system c.in_err-report.ensures.stopped in
    if_err c.from_residual.result stop _ (search rules) (
      inv.ran.0,
      stops_run s a b after (paths_of c.args.paths.now) (paths_of (take i c.args.paths.now)) (paths_of (drop (suc i) c.args.paths.now)) path
          c.loop-path.text.items inv.ran.0
          c.loop-path.status stop (paths_at c.args.paths.now i absent h) inv.ran.1 stopped,
      inv.ran.2,
    )

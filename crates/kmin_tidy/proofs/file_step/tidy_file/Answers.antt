use Rattle.kmin_tidy.proofs.Common.{◌≡◌, ◌++◌, ℕ, List, [], IfOk, IfErr, sym, subst, append-nil, inl, tree_of_settled, file_format, readable, Disk, content_at, settings_of, MayBeRead, Step, report_lines, StopsFile, if_ok_map, if_err_map}
use Rattle.kmin_tidy.specs.checker.Readings.{IsAcceptedAs}
use Rattle.kmin_tidy.proofs.FileLemmas.{not_regular_step, fault_step}
use Rattle.kmin_tidy.proofs.file_step.tidy_file.Goals as goal

pub returns-then-is_refused_unread-clause-step : goal.returns-then-is_refused_unread-clause-step
returns-then-is_refused_unread-clause-step g c =
    let known = c.is_refused_unread.ensures.refused c.if-is_refused_unread.true in (
      [],
      sym (append-nil c.args.text.now.items),
      not_regular_step (settings_of c.args.config.now.system c.args.by.now.format.now c.args.by.now.options)
          (g.D.ReadDisk.disk c.args.disk.now) c.args.path.now c.report_of_problem.result known.0 known.1
          c.report_of_problem.ensures.notices c.report_of_problem.ensures.problem c.report_of_problem.ensures.outcome,
    )

pub tidy_accepted-requires-clause-may : goal.tidy_accepted-requires-clause-may
tidy_accepted-requires-clause-may g c =
    subst (λ (d : Disk). MayBeRead (settings_of c.args.config.now.system c.args.by.now.format.now c.args.by.now.options) d.state c.args.path.now)
    (sym c.in-Ok.ensures.unfailed) (c.is_refused_unread.ensures.may c.if-is_refused_unread.false)

pub tidy_accepted-requires-clause-accepted : goal.tidy_accepted-requires-clause-accepted
tidy_accepted-requires-clause-accepted g c =
    subst (λ (d : Disk). IsAcceptedAs (file_format c.args.by.now.format.now) (tree_of_settled c.args.config.now.system)
    (readable (content_at d.state c.args.path.now)) c.in-Ok.file) (sym c.in-Ok.ensures.unfailed) (rw c.settled.ensures at c.in-Ok.ensures.ok)

pub returns-in-Ok-clause-step : goal.returns-in-Ok-clause-step
returns-in-Ok-clause-step g c =
    let s = settings_of c.args.config.now.system c.args.by.now.format.now c.args.by.now.options in
    let after = g.D.ReadDisk.disk c.tidy_accepted.new.disk in
    subst (λ (d : Disk). IfOk c.tidy_accepted.result (λ report. (line : List ℕ) × (c.tidy_accepted.new.text.items ≡ c.args.text.now.items ++ line)
    × Step s d after c.args.path.now line (report_lines s.tree c.args.path.now report) report.outcome)) c.in-Ok.ensures.unfailed c.tidy_accepted.ensures.step

pub returns-in-Ok-clause-stopped : goal.returns-in-Ok-clause-stopped
returns-in-Ok-clause-stopped g c =
    let s = settings_of c.args.config.now.system c.args.by.now.format.now c.args.by.now.options in
    let after = g.D.ReadDisk.disk c.tidy_accepted.new.disk in
    subst (λ (d : Disk). IfErr c.tidy_accepted.result (StopsFile s d after c.args.path.now)) c.in-Ok.ensures.unfailed c.tidy_accepted.ensures.stopped

pub returns-in-Err-clause-step : goal.returns-in-Err-clause-step
returns-in-Err-clause-step g c =
    if_ok_map c.report_fault.result _ _ (λ report refused. (
      [],
      sym (append-nil c.args.text.now.items),
      fault_step (settings_of c.args.config.now.system c.args.by.now.format.now c.args.by.now.options)
          (g.D.ReadDisk.disk c.args.disk.now) c.args.path.now report (g.D.ReadDisk.disk c.read_file.new.disk) c.in-Err.fault
          (c.is_refused_unread.ensures.may c.if-is_refused_unread.false) (rw c.settled.ensures at c.in-Err.ensures.fault) c.in-Err.ensures.failed
          c.in-Err.ensures.once refused,
    )) c.report_fault.ensures.refused

pub returns-in-Err-clause-stopped : goal.returns-in-Err-clause-stopped
returns-in-Err-clause-stopped g c = if_err_map c.report_fault.result _ _ (λ stop is. inl (is, c.in-Err.ensures.once)) c.report_fault.ensures.stopped

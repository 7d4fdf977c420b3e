use Rattle.kmin_tidy.proofs.Common.{◌≡◌, ◌≢◌, [], map, refl, sym, ap, ◌∙◌, append-nil, inl, inr, tree_of_settled, file_format, notice_pair, settings_of, IsReadAt, IsFragmentOf}
use Rattle.kc_solver.proofs.ErrorExits.{no_value}
use Rattle.kmin_tidy.specs.MinimalFiles.{of_lines}
use Rattle.kmin_tidy.proofs.FileLemmas.{notices_step, rewritten_step, map_some, has_minimal_file, has_choice_notices, stops_rewrite}
use Rattle.kmin_tidy.proofs.WholeRuns.{memory_stop, with_stop}
use Rattle.kmin_tidy.proofs.file_step.tidy_accepted.Goals as goal

pub returns-then-is_refused_for : goal.returns-then-is_refused_for
returns-then-is_refused_for g c =
    let s = settings_of c.args.config.now.system c.args.by.now.format.now c.args.by.now.options in
    let a = g.D.ReadDisk.disk c.args.disk.now in
    let f = c.requires.accepted.fragment in
    let asked = c.is_refused_for.ensures.refused c.if-is_refused_for.true in
    let some : c.args.file.fragment.notices.items ≢ [] = rw c.deref.ensures.value at asked.1 in
    let read : IsReadAt s a.state c.args.path.now c.args.file.bytes.items = record { may = c.requires.may; bytes_are = c.requires.accepted.read } in record {
      settled = refl;
      step = (
        [],
        sym (append-nil c.args.text.now.items),
        notices_step s a c.args.path.now c.report_of_notices.result c.args.file.bytes.items c.args.file.fragment.notices.items read
            (of_lines f.meanings f.accepted f.means f.noted) asked.0
            (map_some notice_pair c.args.file.fragment.notices.items some) c.report_of_notices.ensures.notices c.report_of_notices.ensures.problem
            c.report_of_notices.ensures.outcome,
      );
      stopped = tt;
    }

pub returns-in_err-notices : goal.returns-in_err-notices
returns-in_err-notices g c = record {
  settled = c.solve.ensures.settled;
  step = no_value c.from_residual.result _ _ c.from_residual.ensures.1;
  stopped = memory_stop c.from_residual.result _ c.from_residual.ensures (inl (refl, inl refl));
}

pub returns-then-is_refused_for-2 : goal.returns-then-is_refused_for-2
returns-then-is_refused_for-2 g c =
    let s = settings_of c.args.config.now.system c.args.by.now.format.now c.args.by.now.options in
    let a = g.D.ReadDisk.disk c.args.disk.now in
    let noted = c.in_ok-notices.notices.items in
    let asked = c.is_refused_for-2.ensures.refused c.if-is_refused_for-2.true in
    let some : noted ≢ [] = rw c.deref-2.ensures.value at asked.1 in
    let none : c.args.file.fragment.notices.items ≡ [] = sym c.deref.ensures.value ∙ c.is_refused_for.ensures.allowed c.if-is_refused_for.false asked.0 in
    let read : IsReadAt s a.state c.args.path.now c.args.file.bytes.items = record { may = c.requires.may; bytes_are = c.requires.accepted.read } in record {
      settled = c.in_ok-notices.ensures.settled;
      step = (
        [],
        sym (append-nil c.args.text.now.items),
        notices_step s a c.args.path.now c.report_of_notices-then-is_refused_for-2.result c.args.file.bytes.items noted read
            (has_choice_notices c.args.config.now.system c.solve.new.config.system c.args.by.now.format.now c.args.by.now.options c.args.file.bytes.items c.args.file.fragment noted
            c.solve.new.config.users c.solve.new.config.values c.args.by.now.format.now.prefix.valid c.in_ok-notices.ensures.settled c.requires.accepted.fragment
            c.in_ok-notices.ensures.users c.in_ok-notices.ensures.solved.gives c.in_ok-notices.ensures.notices none)
            asked.0 (map_some notice_pair noted some) c.report_of_notices-then-is_refused_for-2.ensures.notices
            c.report_of_notices-then-is_refused_for-2.ensures.problem c.report_of_notices-then-is_refused_for-2.ensures.outcome,
      );
      stopped = tt;
    }

pub returns-in_err-end : goal.returns-in_err-end
returns-in_err-end g c =
    let s = settings_of c.args.config.now.system c.args.by.now.format.now c.args.by.now.options in
    let a = g.D.ReadDisk.disk c.args.disk.now in
    let b = g.D.ReadDisk.disk c.tidy_allowed.new.disk in
    let bytes = c.deref-3.result.now in
    let noted = c.in_ok-notices.notices.items in
    let f : IsFragmentOf (file_format c.args.by.now.format.now) (tree_of_settled c.args.config.now.system) bytes c.args.file.fragment =
    rw c.deref-3.ensures.value c.requires.accepted.fragment in
    let read : IsReadAt s a.state c.args.path.now bytes = record { may = c.requires.may; bytes_are = rw c.deref-3.ensures.value c.requires.accepted.read } in record {
      settled = c.in_ok-notices.ensures.settled;
      step = no_value c.from_residual-in_err-end.result _ _ c.from_residual-in_err-end.ensures.1;
      stopped = with_stop c.from_residual-in_err-end.result _ _ c.from_residual-in_err-end.ensures.1 (elim c.in_err-end.ensures.stopped [
        | inl memory ↦ inl (memory.0, inl memory.1)
        | inr h ↦ stops_rewrite s a b c.args.path.now bytes h.0 (map notice_pair noted) c.in_err-end.field-0.0 (record {
          read = read;
          minimal = has_minimal_file c.args.config.now.system c.solve.new.config.system c.args.by.now.format.now c.args.by.now.options bytes c.args.file.fragment noted
              c.solve.new.config.users c.solve.new.config.values c.args.by.now.format.now.prefix.valid c.in_ok-notices.ensures.settled f
              c.in_ok-notices.ensures.users c.in_ok-notices.ensures.solved.gives c.in_ok-notices.ensures.notices h.0 h.1;
          allowed = λ asked. ap (map notice_pair) (sym c.deref-2.ensures.value ∙ c.is_refused_for-2.ensures.allowed c.if-is_refused_for-2.false asked);
        }) h.2
      ]);
    }

pub returns : goal.returns
returns g c =
    let s = settings_of c.args.config.now.system c.args.by.now.format.now c.args.by.now.options in
    let a = g.D.ReadDisk.disk c.args.disk.now in
    let b = g.D.ReadDisk.disk c.tidy_allowed.new.disk in
    let bytes = c.deref-3.result.now in
    let noted = c.in_ok-notices.notices.items in
    let f : IsFragmentOf (file_format c.args.by.now.format.now) (tree_of_settled c.args.config.now.system) bytes c.args.file.fragment =
    rw c.deref-3.ensures.value c.requires.accepted.fragment in
    let read : IsReadAt s a.state c.args.path.now bytes = record { may = c.requires.may; bytes_are = rw c.deref-3.ensures.value c.requires.accepted.read } in
    let r = c.in_ok-end.ensures.rewritten in record {
      settled = c.in_ok-notices.ensures.settled;
      step = (
        r.0,
        r.1,
        rewritten_step s a c.args.path.now c.report_of_end.result b bytes r.2 r.0 noted c.in_ok-end.end (record {
          read = read;
          minimal = has_minimal_file c.args.config.now.system c.solve.new.config.system c.args.by.now.format.now c.args.by.now.options bytes c.args.file.fragment noted
              c.solve.new.config.users c.solve.new.config.values c.args.by.now.format.now.prefix.valid c.in_ok-notices.ensures.settled f
              c.in_ok-notices.ensures.users c.in_ok-notices.ensures.solved.gives c.in_ok-notices.ensures.notices r.2 r.3;
          allowed = λ asked. ap (map notice_pair) (sym c.deref-2.ensures.value ∙ c.is_refused_for-2.ensures.allowed c.if-is_refused_for-2.false asked);
        }) r.4
            c.report_of_end.ensures.notices c.report_of_end.ensures.problem c.report_of_end.ensures.outcome,
      );
      stopped = tt;
    }

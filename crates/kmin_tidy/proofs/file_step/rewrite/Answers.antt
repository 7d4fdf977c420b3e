use Rattle.kmin_tidy.proofs.Common.{◌≢◌, Bool, cond, [], take, refl, sym, ap, ◌∙◌, subst, append-nil, inl, inr, file_line, IsRewritten, if_err_map}
use Rattle.kmin_tidy.specs.checker.FileResults.{same, shown}
use Rattle.kmin_tidy.proofs.FileLemmas.{agree, differ, rewritten_by, listed_by}
use Rattle.kmin_tidy.proofs.ReadingLemmas.{both_ok}
use Rattle.kmin_tidy.proofs.WholeRuns.{memory_stop}
use Rattle.kmin_tidy.proofs.file_step.rewrite.Goals as goal

pub returns-then-eq-clause-rewritten : goal.returns-then-eq-clause-rewritten
returns-then-eq-clause-rewritten g c =
    ([], sym (append-nil c.args.text.now.items), same (agree c.args.minimal_bytes.now c.args.bytes.now c.eq.result c.eq.ensures c.if-eq.true) refl refl refl refl)

pub returns-then-by-clause-rewritten : goal.returns-then-by-clause-rewritten
returns-then-by-clause-rewritten g c =
    let a = g.D.ReadDisk.disk c.args.disk.now in
    let b = g.D.ReadDisk.disk c.write_listed.new.disk in
    let path = c.args.path.now in
    let bytes = c.args.bytes.now in
    let minimal_bytes = c.args.minimal_bytes.now in
    let line = file_line c.args.by.now.options.output_form path bytes minimal_bytes in
    let other : minimal_bytes ≢ bytes = differ minimal_bytes bytes c.eq.result c.eq.ensures c.if-eq.false in
    both_ok c.write_listed.result _ _ _ (λ end w listed. (
      cond end.is_replaced line [],
      listed_by c.args.text.now.items line c.write_listed.new.text.items c.len-start.result end.is_replaced (c.len-start.ensures ∙ c.args.text.now.ok.0)
          (listed ∙ ap (λ text. cond end.is_replaced text (take c.len-start.result text)) c.in_ok-push_file_line.ensures),
      subst (λ (write : Bool). IsRewritten c.args.by.now.options.output_form write a b path bytes minimal_bytes (cond end.is_replaced line []) end) (sym c.if-by.true)
          (rewritten_by c.args.by.now.options.output_form a b path bytes minimal_bytes end other w),
    ))
    c.write_listed.ensures.written c.write_listed.ensures.listed

pub returns-then-by-clause-stopped : goal.returns-then-by-clause-stopped
returns-then-by-clause-stopped g c =
    let other : c.args.minimal_bytes.now ≢ c.args.bytes.now = differ c.args.minimal_bytes.now c.args.bytes.now c.eq.result c.eq.ensures c.if-eq.false in
    if_err_map c.write_listed.result _ _ (λ stop h. inr (c.if-by.true, other, h)) c.write_listed.ensures.stopped

pub returns-else-by-clause-rewritten : goal.returns-else-by-clause-rewritten
returns-else-by-clause-rewritten g c =
    let other : c.args.minimal_bytes.now ≢ c.args.bytes.now = differ c.args.minimal_bytes.now c.args.bytes.now c.eq.result c.eq.ensures c.if-eq.false in (
      file_line c.args.by.now.options.output_form c.args.path.now c.args.bytes.now c.args.minimal_bytes.now,
      c.in_ok-push_file_line.ensures,
      shown other c.if-by.false refl refl refl refl,
    )

pub returns-in_err-push_file_line-clause-stopped : goal.returns-in_err-push_file_line-clause-stopped
returns-in_err-push_file_line-clause-stopped g c = memory_stop c.from_residual.result _ c.from_residual.ensures (inl (refl, refl))

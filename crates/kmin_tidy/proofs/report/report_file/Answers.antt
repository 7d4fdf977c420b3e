use Rattle.kmin_tidy.proofs.Common.{◌≡◌, map, ap, ◌∙◌, subst, notice_pair, tree_notice_line, notice_lines, TakesLines, lines_append}
use Rattle.kmin_report.proofs.Lists.{map_twice}
use Rattle.kmin_tidy.proofs.report.report_file.Goals as goal

pub returns : goal.returns
returns g c =
    let path = c.args.path.now in
    let tree = c.args.tree.now.tree in
    let items = c.args.report.now.notices.items in
    let same : map (λ notice. tree_notice_line tree path (notice_pair notice)) c.deref.result.now ≡ notice_lines tree path (map notice_pair items) =
    ap (map (λ notice. tree_notice_line tree path (notice_pair notice))) c.deref.ensures.value ∙ map_twice (tree_notice_line tree path) notice_pair items in
    lines_append _ _ _ _ _ _ _ _
    (subst (λ lines. TakesLines (g.E.Messages.taken c.args.err.now) (g.E.Messages.failures c.args.err.now) lines (g.E.Messages.taken c.report_notices.new.err)
    (g.E.Messages.failures c.report_notices.new.err)) same c.report_notices.ensures)
    c.report_problem.ensures

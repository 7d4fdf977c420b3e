use Rattle.kmin_texts.proofs.Common.{IfOk-weaker, report_line, line_detail, asked_by}
use Rattle.kmin_texts.proofs.OwnDetails.{spelled}
use Rattle.kmin_texts.proofs.worded_lines.WordedReport.line_with.Goals as goal

pub returns : goal.returns
returns c known is =
    IfOk-weaker c.line_in.result _ _
    (λ line e. spelled (asked_by c.args.self.now.wording.now) known (report_line c.args.self.now.report.now) (line_detail c.args.detail) line.items is e)
    (rw c.as_bytes-root.ensures.value at c.line_in.ensures)

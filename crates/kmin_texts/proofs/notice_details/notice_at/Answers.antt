use Rattle.kmin_texts.proofs.Common.{Some, prefix_bytes, near_names, line_detail}
use Rattle.kmin_texts.proofs.NoticeSteps.{at_line, hidden_on}
use Rattle.kmin_texts.proofs.notice_details.notice_at.Goals as goal

pub returns-in-Hidden : goal.returns-in-Hidden
returns-in-Hidden c known number h =
    let prefix = prefix_bytes c.args.prefix.now in
    let names = near_names c.args.tree.now.tree c.args.kind in
    let detail = line_detail c.hidden_notice.result in
    at_line c.args.kind prefix names known number (Some c.in-Hidden.line.items) detail (rw c.in-Hidden.is at h)
    (hidden_on c.args.kind prefix names (Some c.in-Hidden.line.items) detail (rw c.deref-in-Hidden.ensures.value at c.hidden_notice.ensures))

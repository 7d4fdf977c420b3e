use Rattle.kmin_texts.proofs.Common.{inr, of_cycle}
use Rattle.kmin_texts.proofs.OwnDetails.{same_detail}
use Rattle.kmin_texts.proofs.worded_lines.WordedReport.detailed_line.Goals as goal

pub returns-in-Cycle : goal.returns-in-Cycle
returns-in-Cycle g c =
    c.cycle_line.ensures g.L.LineFiles.known (rw c.in-Cycle.is (inr (same_detail (of_cycle c.in-Cycle.tree.now.tree c.in-Cycle.units.now))))

pub returns-in_ok-detail-in-Notice : goal.returns-in_ok-detail-in-Notice
returns-in_ok-detail-in-Notice g c =
    c.line_with-in-Notice.ensures g.L.LineFiles.known
    (rw c.in-Notice.is
    (c.in_ok-detail-in-Notice.ensures (g.L.LineFiles.known.named c.in-Notice.path.now) c.in-Notice.line c.in_ok-reread-in-Notice.ensures))

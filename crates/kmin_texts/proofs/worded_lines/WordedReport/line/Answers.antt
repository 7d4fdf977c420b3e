use Rattle.std.proofs.Common.{inl, refl}
use Rattle.kmin_texts.proofs.worded_lines.WordedReport.line.Goals as goal

pub returns-in-Err : goal.returns-in-Err
returns-in-Err g c = c.line_with.ensures g.L.LineFiles.known (inl refl)

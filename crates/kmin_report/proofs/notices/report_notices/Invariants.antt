use Rattle.std.proofs.Common.{map, take}
use Rattle.kc_dotconfig_model.specs.between.Notices.{notice_pair}
use Rattle.kmin_report.specs.Reports.{tree_notice_line}
use Rattle.kmin_report.specs.StandardError.{TakesLines}
use Rattle.kmin_report.proofs.notices.report_notices.Given as goal

abbrev pub invariant-loop-notice : goal.invariant-loop-notice
invariant-loop-notice g l =
    TakesLines (g.E.Messages.taken l.fn.err) (g.E.Messages.failures l.fn.err) (map (λ notice. tree_notice_line l.tree.tree l.path (notice_pair notice)) (take l.notice-index l.notices))
    (g.E.Messages.taken l.err) (g.E.Messages.failures l.err)

use Rattle.std.proofs.Common.{map, take}
use Rattle.kc_macros.specs.Runs.{notice_of}
use Rattle.kmin_report.specs.Reports.{macro_notice_line}
use Rattle.kmin_report.specs.StandardError.{TakesLines}
use Rattle.kmin_expansions.proofs.expanded_trees.report_macro_notices.Given as goal

abbrev pub invariant-loop-notice : goal.invariant-loop-notice
invariant-loop-notice g l =
    TakesLines (g.E.Messages.taken l.fn.err) (g.E.Messages.failures l.fn.err) (map (λ notice. macro_notice_line (notice_of notice)) (take l.notice-index l.notices))
    (g.E.Messages.taken l.err) (g.E.Messages.failures l.err)

use Rattle.std.proofs.Common.{subst, rules}
use Rattle.kc_macros.specs.Runs.{notice_of}
use Rattle.kc_macros.specs.declared.stop.MacroNotice.{MacroNotice}
use Rattle.kmin_report.specs.Reports.{macro_notice_line}
use Rattle.kmin_report.specs.StandardError.{TakesLine, none}
use Rattle.kmin_report.proofs.WriterLemmas.{lines_next}
use Rattle.kmin_expansions.proofs.expanded_trees.report_macro_notices.Goals as goal

pub loop-notice-init : goal.loop-notice-init
loop-notice-init g c = none

pub loop-notice-preserved : goal.loop-notice-preserved
loop-notice-preserved g c =
    lines_next (λ notice. macro_notice_line (notice_of notice)) c.args.notices.now c.loop-notice.notice-index
    c.notice-item.result _ _ _ _ _ _ (search rules) c.loop-notice.invariant
    (subst (λ (notice : MacroNotice). TakesLine (g.E.Messages.taken c.loop-notice.err) (g.E.Messages.failures c.loop-notice.err) (macro_notice_line (notice_of notice))
    (g.E.Messages.taken c.write_report.new.self) (g.E.Messages.failures c.write_report.new.self)) c.notice-item.is c.write_report.ensures)

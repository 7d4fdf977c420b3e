use Rattle.std.proofs.Common.{rules}
use Rattle.kc_dotconfig_model.specs.between.Notices.{notice_pair}
use Rattle.kc_dotconfig_model.specs.declared.notice.NoticeKind.TheVariants.{UnknownSymbol}
use Rattle.kmin_report.specs.Reports.{tree_notice_line}
use Rattle.kmin_report.specs.StandardError.{none}
use Rattle.kmin_report.proofs.WriterLemmas.{lines_next}
use Rattle.kmin_report.proofs.notices.report_notices.Goals as goal

pub loop-notice-init : goal.loop-notice-init
loop-notice-init g c = none

pub loop-notice-preserved : goal.loop-notice-preserved
loop-notice-preserved g c =
    lines_next (λ notice. tree_notice_line c.args.tree.now.tree c.args.path.now (notice_pair notice)) c.args.notices.now c.loop-notice.notice-index
    (record { line = 0; kind = UnknownSymbol }) _ _ _ _ _ _ (search rules) c.loop-notice.invariant c.write_report.ensures

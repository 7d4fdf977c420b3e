use Rattle.kmin_outputs.proofs.Common.{ℕ, List, [], map, rules, Bor, none, lines_next}
use Rattle.std.specs.Prelude.{unwrap_or, slice_get}
use Rattle.kc_dotconfig_model.specs.declared.notice.NoticeKind.TheVariants.{OtherChoice}
use Rattle.kmin_report.specs.Reports.{notice_line}
use Rattle.kmin_outputs.proofs.configurations.report_choices.Goals as goal

pub loop-place-init : goal.loop-place-init
loop-place-init g c = none

pub loop-place-preserved : goal.loop-place-preserved
loop-place-preserved g c =
    lines_next (λ (p : ℕ × ℕ). notice_line (unwrap_or (slice_get (map (λ (path : Bor (List ℕ)). path.now) c.args.paths.now) p.0) []) (p.1, OtherChoice) [])
    c.args.places.now c.loop-place.place-index (0, 0) _ _ _ _ _ _ (search rules) c.loop-place.invariant (rw c.path_at-path.ensures at c.write_report.ensures)

use Rattle.std.proofs.Common.{◌∙◌}
use Rattle.std.specs.Fmt.{decimal}
use Rattle.kmin_report.specs.Reports.{units_text}
use Rattle.kmin_report.proofs.WriterLemmas.{on_err, on_err_map}
use Rattle.kmin_report.proofs.CycleLines.{cut_in_head, cut_in_units, cut_at_end}
use Rattle.kmin_report.proofs.message.write_cycle.Goals as goal

pub returns-in_err-write_pieces-clause-part : goal.returns-in_err-write_pieces-clause-part
returns-in_err-write_pieces-clause-part g c =
    let units = units_text c.args.tree.now.tree c.args.units.now in
    on_err _ _ (cut_in_head _ _ c.args.path.now (decimal c.args.line) units _ _
    (rw (c.as_bytes.ensures.value ∙ c.format-number.ensures.text) at c.in_err-write_pieces.ensures.part))

pub returns-in_err-write_units-clause-part : goal.returns-in_err-write_units-clause-part
returns-in_err-write_units-clause-part g c =
    let units = units_text c.args.tree.now.tree c.args.units.now in
    on_err _ _ (cut_in_units _ _ c.args.path.now (decimal c.args.line) units _ _ _ _
    (rw (c.as_bytes.ensures.value ∙ c.format-number.ensures.text) at c.in_ok-write_pieces.ensures.whole)
    c.in_err-write_units.ensures.part)

pub returns-clause-part : goal.returns-clause-part
returns-clause-part g c =
    let units = units_text c.args.tree.now.tree c.args.units.now in
    on_err_map _ _ _ (λ last. cut_at_end _ _ c.args.path.now (decimal c.args.line) units _ _ _ _ _ _
    (rw (c.as_bytes.ensures.value ∙ c.format-number.ensures.text) at c.in_ok-write_pieces.ensures.whole) c.in_ok-write_units.ensures.whole last)
    c.write_pieces-2.ensures.part

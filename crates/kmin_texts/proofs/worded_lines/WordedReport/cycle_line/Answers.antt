use Rattle.kmin_texts.proofs.Common.{◌∙◌, ap, map, option_map, string_bytes, subst, step_of, report_line, IsDetailOf, asked_by}
use Rattle.std.specs.Global.{Vec}
use Rattle.kmin_faults.specs.declared.steps.Step.{Step}
use Rattle.kmin_texts.proofs.CycleDetails.{with_steps}
use Rattle.kmin_texts.proofs.worded_lines.WordedReport.cycle_line.Goals as goal

pub returns-in-Some : goal.returns-in-Some
returns-in-Some c known is =
    let steps_found = option_map (λ (found : Vec Step). map step_of found.items) in
    c.line_with.ensures known (rw c.deref-in-Some.ensures.value
    (subst (IsDetailOf (asked_by c.args.self.now.wording.now) known (report_line c.args.self.now.report.now))
    (with_steps c.args.tree.now.tree c.args.units.now (map string_bytes c.deref.result.now)
    (ap (map string_bytes) c.deref.ensures.value ∙ c.in_ok-names.ensures) (steps_found c.in_ok-steps.field-0) c.in_ok-steps.ensures c.in-Some.steps.items
    (ap steps_found c.in-Some.is)) is))

use Rattle.kmin_tidy.proofs.Common.{◌++◌, ap, sym, ◌∙◌, OutputForm, file_line}
use Rattle.std.proofs.lemmas.Result.{on_ok_weaker}
use Rattle.kmin_records.proofs.RecordSteps.{line_appended}
use Rattle.kmin_tidy.proofs.file_lines.push_file_line.Goals as goal

pub returns-in-Plain : goal.returns-in-Plain
returns-in-Plain c =
    on_ok_weaker c.push_difference_line.result
    (λ w. w ∙ ap (λ (form : OutputForm). c.args.text.now.items ++ file_line form c.args.path.now c.args.bytes.now c.args.minimal_bytes.now) (sym c.in-Plain.is))
    c.push_difference_line.ensures

pub returns-in_ok-line-in-Json : goal.returns-in_ok-line-in-Json
returns-in_ok-line-in-Json c =
    line_appended c.extend_from_slice.result c.args.text.now.items _ c.deref.result.now _ c.extend_from_slice.ensures.items
    (c.deref.ensures.value ∙ c.in_ok-line-in-Json.ensures.line
    ∙ ap (λ (form : OutputForm). file_line form c.args.path.now c.args.bytes.now c.args.minimal_bytes.now) (sym c.in-Json.is))

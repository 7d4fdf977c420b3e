use Rattle.kc_answers.proofs.Common.{◌∙◌, ap, sym, meaning_of_line, with_meaning, bytes_of, lines_view}
use Rattle.kc_answers.proofs.RecordLemmas.{line_recorded}
use Rattle.kc_answers.proofs.line_records.record_line.Goals as goal

pub returns-clause-ok : goal.returns-clause-ok
returns-clause-ok c =
    let lines = lines_view c.args.count (bytes_of c.args.waiting) c.args.table.now in
    let e = line_recorded lines c.args.line.now (sym c.in_default.ensures.value) ∙ ap (with_meaning lines)
    (ap (meaning_of_line (bytes_of c.args.waiting)) (sym c.without_white_end.ensures) ∙ sym c.meaning_of_line.ensures) in
    simp e c.record_meaning.ensures.ok

pub returns-clause-err : goal.returns-clause-err
returns-clause-err c =
    let lines = lines_view c.args.count (bytes_of c.args.waiting) c.args.table.now in
    let e = line_recorded lines c.args.line.now (sym c.in_default.ensures.value) ∙ ap (with_meaning lines)
    (ap (meaning_of_line (bytes_of c.args.waiting)) (sym c.without_white_end.ensures) ∙ sym c.meaning_of_line.ensures) in
    simp e c.record_meaning.ensures.err

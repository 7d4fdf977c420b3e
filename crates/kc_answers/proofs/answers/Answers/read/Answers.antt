use Rattle.kc_answers.proofs.Common.{rules, ◌∙◌, ap, sym, inl, inr, ⊎_elim, take, MAX_ANSWER_BYTES, split_at_newlines, AnswersFault, first_line, recorded_from, end_of_file}
use Rattle.kc_answers.proofs.AnswerFileLemmas.{file_recorded, file_unfailed, file_refused, memory_has_no_line}
use Rattle.kc_answers.proofs.answers.Answers.read.Goals as goal

pub returns-in-Ok-record_lines-clause-ok : goal.returns-in-Ok-record_lines-clause-ok
returns-in-Ok-record_lines-clause-ok g c =
    let e = ap (λ s. recorded_from (end_of_file c.in-Ok.cut) (first_line c.args.self.now) (split_at_newlines s))
    (sym (c.within_size.ensures ∙ ap (take MAX_ANSWER_BYTES) c.as_slice.ensures.value))
    ∙ c.in-Ok-record_lines.ensures.ok in
    file_recorded (g.R.Source.left c.args.source.now) (g.R.Source.left c.read_whole.new.source) (g.R.Source.failures c.args.source.now)
    (g.R.Source.failures c.read_whole.new.source) _ c.args.self.now c.in-Ok.ensures.read c.in-Ok.cut c.in-Ok.ensures.end _ e

pub returns-in-Ok-record_lines-clause-unfailed : goal.returns-in-Ok-record_lines-clause-unfailed
returns-in-Ok-record_lines-clause-unfailed g c =
    let e = ap (λ s. recorded_from (end_of_file c.in-Ok.cut) (first_line c.args.self.now) (split_at_newlines s))
    (sym (c.within_size.ensures ∙ ap (take MAX_ANSWER_BYTES) c.as_slice.ensures.value))
    ∙ c.in-Ok-record_lines.ensures.ok in
    file_unfailed (g.R.Source.left c.args.source.now) (g.R.Source.left c.read_whole.new.source) (g.R.Source.failures c.args.source.now)
    (g.R.Source.failures c.read_whole.new.source) _ c.args.self.now c.in-Ok.ensures.read c.in-Ok.cut c.in-Ok.ensures.end _ e

pub returns-clause-fault : goal.returns-clause-fault
returns-clause-fault g c =
    let e = ap (λ s. recorded_from (end_of_file c.in-Ok.cut) (first_line c.args.self.now) (split_at_newlines s))
    (sym (c.within_size.ensures ∙ ap (take MAX_ANSWER_BYTES) c.as_slice.ensures.value)) in
    ⊎_elim (λ m. inl (ap (λ (f : AnswersFault). f.kind) m))
    (λ h. inr (file_refused (g.R.Source.left c.args.source.now) (g.R.Source.left c.read_whole.new.source) (g.R.Source.failures c.args.source.now)
    (g.R.Source.failures c.read_whole.new.source) _ c.args.self.now c.in-Ok.ensures.read c.in-Ok.cut c.in-Ok.ensures.end c.in-Err.fault (e ∙ h)))
    c.in-Err.ensures.err

pub returns-clause-no_memory : goal.returns-clause-no_memory
returns-clause-no_memory g c =
    let e = ap (λ s. recorded_from (end_of_file c.in-Ok.cut) (first_line c.args.self.now) (split_at_newlines s))
    (sym (c.within_size.ensures ∙ ap (take MAX_ANSWER_BYTES) c.as_slice.ensures.value)) in
    memory_has_no_line (g.R.Source.left c.args.source.now) (g.R.Source.left c.read_whole.new.source) (g.R.Source.failures c.args.source.now)
    (g.R.Source.failures c.read_whole.new.source) _ c.args.self.now c.in-Ok.ensures.read c.in-Ok.cut c.in-Ok.ensures.end c.in-Err.fault
    (⊎_elim (λ m. inl m) (λ h. inr (e ∙ h)) c.in-Err.ensures.err)

pub returns-in_default : goal.returns-in_default
returns-in_default g c = search rules

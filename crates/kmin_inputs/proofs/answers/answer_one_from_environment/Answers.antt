use Rattle.kmin_inputs.proofs.Common.{◌≡◌, false, sym, ◌∙◌, is_some, keyword_in_table}
use Rattle.std.specs.Prelude.{option_map, string_bytes}
use Rattle.kmin_report.proofs.Results.{on_ok_map}
use Rattle.kmin_inputs.proofs.LentAnswers.{lent_kept, lent_new, no_answer}
use Rattle.kmin_inputs.proofs.answers.answer_one_from_environment.Goals as goal

pub returns-then-has-clause-lent : goal.returns-then-has-clause-lent
returns-then-has-clause-lent g c =
    lent_kept (g.F.Files.surroundings c.args.files.now).variable c.args.answers.now c.args.name.now
    (rw c.as_bytes-question.ensures.value at (sym c.has.ensures ∙ c.if-has.true))

pub returns-clause-lent : goal.returns-clause-lent
returns-clause-lent g c =
    let variable_of = (g.F.Files.surroundings c.args.files.now).variable in
    let name = c.args.name.now in
    let value = option_map string_bytes c.in_ok-value.value in
    let absent : is_some (keyword_in_table c.args.answers.now name) ≡ false = rw c.as_bytes-question.ensures.value at (sym c.has.ensures ∙ c.if-has.false) in
    on_ok_map c.set.result _ _ (λ h. lent_new variable_of c.args.answers.now c.set.new.self name value (no_answer c.args.answers.now name absent)
    c.in_ok-value.ensures.value (λ question. rw (c.as_bytes-question.ensures.value, c.usable_value.ensures) at (h question))) c.set.ensures.ok

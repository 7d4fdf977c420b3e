use Rattle.std.proofs.Common.{Bor}
use Rattle.kc_macros.proofs.Common.{ℕ, List, Some, sym, option_map, value_of_answer, asked_value, place_of}
use Rattle.kc_macros.proofs.RunLemmas.{runs_out, returns_as}
use Rattle.kc_macros.proofs.EventLemmas.{noted, asks_answered}
use Rattle.kc_macros.proofs.events.ask.Goals as goal

pub returns-in_err-value-in-Some : goal.returns-in_err-value-in-Some
returns-in_err-value-in-Some c = runs_out _ _ _ _ _ c.from_residual.ensures.1

pub returns-in_err-note_question-in-Some : goal.returns-in_err-note_question-in-Some
returns-in_err-note_question-in-Some c = runs_out _ _ _ _ _ c.from_residual-in_err-note_question-in-Some.ensures.1

pub returns-in_ok-note_question-in-Some : goal.returns-in_ok-note_question-in-Some
returns-in_ok-note_question-in-Some c =
    let a = option_map (λ (t : Bor (List ℕ)). t.now) c.in-Some.answer in
    returns_as c.args.run.now (noted c.args.run.now (place_of c.args.at) c.args.question.now) c.note_question.new.self
    (asked_value (place_of c.args.at) c.args.question.now) (value_of_answer (Some a)) (Some c.in_ok-value-in-Some.value)
    c.in_ok-note_question-in-Some.ensures c.in_ok-value-in-Some.ensures
    (asks_answered c.args.run.now (place_of c.args.at) c.args.question.now a (sym c.in-Some.ensures))

use Rattle.kc_macros.proofs.Common.{◌∙◌, None, sym, subst, returned, asked_value, RunState, place_of, ends, Runs}
use Rattle.kc_macros.proofs.RunLemmas.{runs_out}
use Rattle.kc_macros.proofs.EventLemmas.{asks_in_vain, asks_later}
use Rattle.kc_macros.proofs.events.unanswered_value.Goals as goal

pub returns-then-all_answered : goal.returns-then-all_answered
returns-then-all_answered c = record {
  run = asks_in_vain c.args.run.now (place_of c.args.at) c.args.question.now c.requires.unanswered (sym c.all_answered.ensures
      ∙ c.if-all_answered.true) c.fault.result c.fault.ensures;
}

pub returns-in_err-note_question : goal.returns-in_err-note_question
returns-in_err-note_question c = record {
  run = runs_out _ _ _ _ _ c.from_residual.ensures.1;
}

pub returns : goal.returns
returns c = record {
  run = subst (λ (t : RunState). Runs c.args.run.now t (asked_value (place_of c.args.at) c.args.question.now) (ends (returned None)))
      (sym c.in_ok-note_question.ensures)
      (asks_later c.args.run.now (place_of c.args.at) c.args.question.now c.requires.unanswered (sym c.all_answered.ensures ∙ c.if-all_answered.false));
}

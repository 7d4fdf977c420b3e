use Rattle.kc_macros.proofs.Common.{Some, ap, place_of, bindings_of, variable_of}
use Rattle.kc_macros.proofs.RunLemmas.{runs_out, passes_on}
use Rattle.kc_macros.proofs.AssignmentLemmas.{append_unstored, append_stored}
use Rattle.kc_macros.proofs.assignments.appended.Goals as goal

pub returns-in_err-more-in-Simple : goal.returns-in_err-more-in-Simple
returns-in_err-more-in-Simple c =
    passes_on _ _ _ _ c.in_err-more-in-Simple.field-0.0 _ c.from_residual.ensures.1
    (append_unstored c.args.run.now c.text_value.new.run (place_of c.args.at) (bindings_of c.args.bindings.now) c.args.text.now
    (Some (variable_of c.args.before.now)) c.in-Simple.value (ap (λ v. Some (variable_of v)) c.in-Simple.is) c.in_err-more-in-Simple.field-0.0
    c.in_err-more-in-Simple.ensures)

pub returns-in_err-whole-in-Simple : goal.returns-in_err-whole-in-Simple
returns-in_err-whole-in-Simple c = runs_out _ _ _ _ _ c.from_residual-in_err-whole-in-Simple.ensures.1

pub returns-in_err-whole-in-Recursive : goal.returns-in_err-whole-in-Recursive
returns-in_err-whole-in-Recursive c = runs_out _ _ _ _ _ c.from_residual-in_err-whole-in-Recursive.ensures.1

pub returns-in_ok-whole-in-Simple : goal.returns-in_ok-whole-in-Simple
returns-in_ok-whole-in-Simple c =
    append_stored c.args.run.now c.text_value.new.run (place_of c.args.at) (bindings_of c.args.bindings.now) c.args.text.now
    (Some (variable_of c.args.before.now)) c.in-Simple.value (ap (λ v. Some (variable_of v)) c.in-Simple.is)
    c.stored_simple.new.run c.in_ok-more-in-Simple.more c.in_ok-whole-in-Simple.whole _ c.in_ok-whole-in-Simple.ensures c.in_ok-more-in-Simple.ensures
    c.stored_simple.ensures

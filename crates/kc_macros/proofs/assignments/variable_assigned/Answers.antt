use Rattle.kc_macros.proofs.Common.{place_of, bindings_of}
use Rattle.kc_macros.proofs.RunLemmas.{passes_on}
use Rattle.kc_macros.proofs.AssignmentLemmas.{set_unstored, set_stored}
use Rattle.kc_macros.proofs.assignments.variable_assigned.Goals as goal

pub returns-in_err-value-in-SetsNow : goal.returns-in_err-value-in-SetsNow
returns-in_err-value-in-SetsNow c =
    passes_on _ _ _ _ c.in_err-value-in-SetsNow.field-0.0 _ c.from_residual.ensures.1
    (set_unstored c.args.run.now c.text_value.new.run (place_of c.args.at) (bindings_of c.args.bindings.now)
    c.args.operator c.args.text c.as_slice.result.now (bindings_of c.args.bindings.now c.args.name.now)
    c.in-SetsNow.is c.as_slice.ensures c.in_err-value-in-SetsNow.field-0.0 c.in_err-value-in-SetsNow.ensures)

pub returns-in_ok-value-in-SetsNow : goal.returns-in_ok-value-in-SetsNow
returns-in_ok-value-in-SetsNow c =
    set_stored c.args.run.now c.text_value.new.run (place_of c.args.at) (bindings_of c.args.bindings.now)
    c.args.operator c.args.text c.as_slice.result.now (bindings_of c.args.bindings.now c.args.name.now)
    c.in-SetsNow.is c.as_slice.ensures
    c.stored_simple.new.run c.in_ok-value-in-SetsNow.value _ c.in_ok-value-in-SetsNow.ensures c.stored_simple.ensures

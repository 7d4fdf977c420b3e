use Rattle.kc_macros.proofs.Common.{simple, place_of}
use Rattle.kc_macros.proofs.RunLemmas.{passes_on}
use Rattle.kc_macros.proofs.AssignmentLemmas.{stored_stopped, stored_returned}
use Rattle.kc_macros.proofs.assignments.stored_simple.Goals as goal

pub returns-in_err-store : goal.returns-in_err-store
returns-in_err-store c =
    passes_on _ _ _ _ c.in_err-store.field-0.0 _ c.from_residual.ensures.1
    (stored_stopped c.args.run.now c.store.new.run (place_of c.args.at) c.args.value (simple c.args.value) c.in_err-store.field-0.0
    (rw c.value_length.ensures at c.in_err-store.ensures))

pub returns : goal.returns
returns c = stored_returned c.args.run.now c.store.new.run (place_of c.args.at) c.args.value (simple c.args.value)
    (rw c.value_length.ensures at c.in_ok-store.ensures)

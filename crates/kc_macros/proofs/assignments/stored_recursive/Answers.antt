use Rattle.kc_macros.proofs.Common.{Some, recursive, place_of}
use Rattle.kc_macros.proofs.RunLemmas.{passes_on}
use Rattle.kc_macros.proofs.AssignmentLemmas.{stored_stopped, stored_returned}
use Rattle.kc_macros.proofs.assignments.stored_recursive.Goals as goal

pub returns-in_err-store : goal.returns-in_err-store
returns-in_err-store c =
    passes_on _ _ _ _ c.in_err-store.field-0.0 _ c.from_residual.ensures.1
    (stored_stopped c.args.run.now c.store.new.run (place_of c.args.at) (Some c.args.text) (recursive c.args.text) c.in_err-store.field-0.0
    (rw c.as_slice.ensures at c.in_err-store.ensures))

pub returns : goal.returns
returns c = stored_returned c.args.run.now c.store.new.run (place_of c.args.at) (Some c.args.text) (recursive c.args.text)
    (rw c.as_slice.ensures at c.in_ok-store.ensures)

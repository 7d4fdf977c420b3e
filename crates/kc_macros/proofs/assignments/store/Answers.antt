use Rattle.kc_macros.specs.Runs.{place_of}
use Rattle.kc_macros.proofs.ExpansionLemmas.{fails_so}
use Rattle.kc_macros.proofs.AssignmentLemmas.{stores_too_much}
use Rattle.kc_macros.proofs.assignments.store.Goals as goal

pub returns-then-length-gt-MAX_TEXT_BYTES : goal.returns-then-length-gt-MAX_TEXT_BYTES
returns-then-length-gt-MAX_TEXT_BYTES c = fails_so c.args.run.now _ _ c.fault.result
    (stores_too_much c.args.run.now (place_of c.args.at) c.args.length c.if-length-gt-MAX_TEXT_BYTES.true) c.fault.ensures

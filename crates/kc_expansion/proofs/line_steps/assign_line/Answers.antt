use Rattle.kc_expansion.proofs.Common.{ap, place_of, bindings_of, assigned_or_fault}
use Rattle.kc_macros.proofs.ExpansionLemmas.{fails_so}
use Rattle.kc_expansion.proofs.line_steps.assign_line.Goals as goal

pub returns-then-joined-clause-run : goal.returns-then-joined-clause-run
returns-then-joined-clause-run c = fails_so c.args.state.now.run _ _ c.fault.result
    (ap (λ j. assigned_or_fault (place_of c.args.at) j (bindings_of c.args.state.now.bindings) c.args.assignment) c.if-joined.true) c.fault.ensures

use Rattle.kc_macros.proofs.Common.{place_of, bindings_of, variable_of}
use Rattle.kc_macros.proofs.RunLemmas.{runs_out, passes_on}
use Rattle.kc_macros.proofs.AssignmentLemmas.{bound_stopped, bound_so}
use Rattle.kc_macros.proofs.assignments.assign.Goals as goal

pub returns-in_err-variable-clause-run : goal.returns-in_err-variable-clause-run
returns-in_err-variable-clause-run c = passes_on _ _ _ _ c.in_err-variable.field-0.0 _ c.from_residual.ensures.1
    (bound_stopped c.args.run.now c.variable_assigned.new.run (place_of c.args.at) (bindings_of c.args.bindings.now)
    c.args.assignment.operator c.args.assignment.text c.args.assignment.name c.as_slice.result.now c.as_slice.ensures c.in_err-variable.field-0.0
    c.in_err-variable.ensures)

pub returns-in_err-bind-clause-run : goal.returns-in_err-bind-clause-run
returns-in_err-bind-clause-run c = runs_out _ _ _ _ _ c.from_residual-in_err-bind.ensures.1

pub returns-clause-run : goal.returns-clause-run
returns-clause-run c = bound_so c.args.run.now c.variable_assigned.new.run (place_of c.args.at) (bindings_of c.args.bindings.now)
    c.args.assignment.operator c.args.assignment.text c.args.assignment.name c.as_slice.result.now c.as_slice.ensures
    (bindings_of c.bind.new.self) (variable_of c.in_ok-variable.variable) c.in_ok-bind.ensures.ok c.in_ok-variable.ensures

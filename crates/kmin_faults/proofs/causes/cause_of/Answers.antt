use Rattle.kmin_faults.proofs.Common.{sym, ◌∙◌, IfOk-weaker}
use Rattle.kmin_faults.proofs.StoredCauses.{symbol_unit, choice_unit}
use Rattle.kmin_faults.proofs.causes.cause_of.Goals as goal

pub returns-in-Symbol : goal.returns-in-Symbol
returns-in-Symbol c =
    IfOk-weaker c.first_cause.result _ _
    (λ cause e. e ∙ sym (symbol_unit c.args.tree.now.tree c.args.unit c.args.other c.in-Symbol.symbol _ (rw c.in-Symbol.is at c.unit.ensures.unit)
    c.symbol.ensures.symbol)) c.first_cause.ensures.value

pub returns-in-Choice : goal.returns-in-Choice
returns-in-Choice c =
    IfOk-weaker c.first_cause-in-Choice.result _ _
    (λ cause e. e ∙ sym (choice_unit c.args.tree.now.tree c.args.unit c.args.other c.in-Choice.choice _ (rw c.in-Choice.is at c.unit.ensures.unit)
    c.choice.ensures.choice)) c.first_cause-in-Choice.ensures.value

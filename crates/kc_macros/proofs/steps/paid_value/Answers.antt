use Rattle.kc_macros.proofs.RunLemmas.{passes_on}
use Rattle.kc_macros.proofs.ExpansionLemmas.{value_unpaid, value_paid}
use Rattle.kc_macros.specs.Runs.{place_of}
use Rattle.kc_macros.proofs.steps.paid_value.Goals as goal

pub returns-in_err-spend : goal.returns-in_err-spend
returns-in_err-spend c =
    passes_on _ _ _ _ c.in_err-spend.field-0.0 _ c.from_residual.ensures.1
    (value_unpaid (place_of c.args.at) c.args.value c.value_length.result c.args.run.now c.spend.new.run c.value_length.ensures
    c.in_err-spend.field-0.0 c.in_err-spend.ensures)

pub returns : goal.returns
returns c = value_paid (place_of c.args.at) c.args.value c.value_length.result c.args.run.now c.spend.new.run c.value_length.ensures c.in_ok-spend.ensures

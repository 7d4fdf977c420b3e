use Rattle.kc_rules.proofs.rules.Settled.condition.Goals as goal

pub returns : goal.returns
returns c = record { value = c.condition.ensures.value }

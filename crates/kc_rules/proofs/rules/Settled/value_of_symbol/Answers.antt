use Rattle.kc_rules.proofs.rules.Settled.value_of_symbol.Goals as goal

pub returns : goal.returns
returns c = record { value = c.symbol.ensures.value }

use Rattle.kc_builder.proofs.Common.{arith, elements}
use Rattle.kc_builder.proofs.rows.place_of.Goals as goal

pub returns-in-None : goal.returns-in-None
returns-in-None c = grind (arith, elements)

pub returns-in-Some-get : goal.returns-in-Some-get
returns-in-Some-get c = grind (arith, elements)

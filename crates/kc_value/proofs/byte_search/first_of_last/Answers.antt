use Rattle.kc_value.proofs.BlockSteps.{none_of_last, first_of_last}
use Rattle.kc_value.proofs.byte_search.first_of_last.Goals as goal

pub returns-then-mask-eq0 : goal.returns-then-mask-eq0
returns-then-mask-eq0 g c = none_of_last _ c.args.bytes.now c.args.at _ c.requires.long c.requires.within c.requires.last c.marks_of.ensures c.if-mask-eq0.true

pub returns : goal.returns
returns g c = first_of_last _ c.args.bytes.now c.args.at _ c.requires.long c.requires.within c.requires.last c.marks_of.ensures c.if-mask-eq0.false

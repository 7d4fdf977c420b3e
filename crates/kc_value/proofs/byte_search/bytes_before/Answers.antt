use Rattle.std.proofs.Common.{sym, ◌∙◌, arith}
use Rattle.kc_value.proofs.BlockSteps.{none_among, first_among}
use Rattle.kc_value.proofs.byte_search.bytes_before.Goals as goal

pub returns-then-mask-eq0 : goal.returns-then-mask-eq0
returns-then-mask-eq0 g c = none_among _ c.args.bytes.now c.args.at 16 c.requires.room (omega arith) (sym c.marks_of-mask.ensures ∙ c.if-mask-eq0.true)

pub returns : goal.returns
returns g c = first_among _ c.args.bytes.now c.args.at 16 c.requires.room (omega arith) _ c.marks_of-mask.ensures c.if-mask-eq0.false

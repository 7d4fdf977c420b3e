use Rattle.std.proofs.Common.{arith}
use Rattle.kc_builder.proofs.ItemSteps.{own_all, own_done, own_more}
use Rattle.kc_builder.proofs.definition_attributes.push_own.Goals as goal

pub loop-i-init : goal.loop-i-init
loop-i-init c = own_all c.args.symbol c.args.found.now c.args.own.lines.now c.args.own.conditions.now

pub loop-i-preserved : goal.loop-i-preserved
loop-i-preserved c =
    own_more c.args.symbol c.args.found.now c.loop-i.found _ c.args.own.lines.now c.args.own.conditions.now c.loop-i.i c.index-conditions-i.result
    c.index-lines-i.result (omega arith) c.args.own.many c.loop-i.invariant c.index-lines-i.is c.index-conditions-i.is c.in_ok-push_line.ensures

pub returns : goal.returns
returns c = own_done c.args.symbol c.args.found.now c.loop-i.found c.args.own.lines.now c.args.own.conditions.now c.loop-i.i (omega arith) c.loop-i.invariant

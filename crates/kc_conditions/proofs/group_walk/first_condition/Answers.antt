use Rattle.kc_conditions.proofs.Common.{◌∙◌, sym, arith, common_steps}
use Rattle.kc_conditions.proofs.WalkSteps.{first_step}
use Rattle.kc_conditions.proofs.group_walk.first_condition.Goals as goal

pub loop-i-preserved : goal.loop-i-preserved
loop-i-preserved c =
    c.loop-i.invariant ∙ first_step c.args.lines.now c.args.conditions.now c.loop-i.i c.index-lines-i.result c.loop-i-test.true c.requires.many
    (sym c.is_prompt.ensures ∙ c.if-is_prompt.false)

pub bounds-conditions-i : goal.bounds-conditions-i
bounds-conditions-i c = grind (arith, common_steps)

pub returns-then-is_prompt : goal.returns-then-is_prompt
returns-then-is_prompt c = grind (arith, common_steps)

pub returns : goal.returns
returns c = grind (arith, common_steps)

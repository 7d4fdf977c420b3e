use Rattle.kc_dotconfig.proofs.Common.{rules, arith, common_steps, elements}
use Rattle.kc_dotconfig.proofs.LineMeanings.{named_there}
use Rattle.kc_dotconfig.proofs.meanings.symbol_of_unit.Goals as goal

pub returns-in-Symbol-clause-symbol : goal.returns-in-Symbol-clause-symbol
returns-in-Symbol-clause-symbol c =
    named_there c.args.tree.now.tree c.arena.ensures.consistent c.in-Symbol.s c.name.result.now c.args.name.now c.name.ensures.value (search rules)

pub returns-then-u-len-clause-there : goal.returns-then-u-len-clause-there
returns-then-u-len-clause-there c = grind (arith, elements)

pub returns-in-Symbol-clause-there : goal.returns-in-Symbol-clause-there
returns-in-Symbol-clause-there c = grind (arith, elements)

pub returns-then-u-len-clause-symbol : goal.returns-then-u-len-clause-symbol
returns-then-u-len-clause-symbol c = grind (arith, common_steps)

pub returns-in_default-clause-there : goal.returns-in_default-clause-there
returns-in_default-clause-there c = grind (arith, elements)

pub returns-in_default-clause-symbol : goal.returns-in_default-clause-symbol
returns-in_default-clause-symbol c = grind (arith, elements)

pub name-requires : goal.name-requires
name-requires c = grind (arith, common_steps)

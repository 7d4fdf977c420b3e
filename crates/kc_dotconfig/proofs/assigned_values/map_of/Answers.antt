use Rattle.kc_dotconfig.proofs.Common.{rules, arith, common_steps}
use Rattle.std.proofs.lemmas.Iterator.Consumers.{YieldsList-turn}
use Rattle.std.proofs.lemmas.Iterator.Adapters.{YieldsList-from_vec}
use Rattle.kc_dotconfig.proofs.AscendingUnits.{mapped_next}
use Rattle.kc_dotconfig.proofs.assigned_values.map_of.Goals as goal

pub loop-unit-preserved : goal.loop-unit-preserved
loop-unit-preserved c =
    let t = YieldsList-turn (YieldsList-from_vec {s = c.into_iter-unit-iterator.result} c.args.listed.items (search rules) (search rules))
    c.loop-unit.yielded c.loop-unit.unit-iterator c.loop-unit.yielded_by c.next.result c.next.new.self (c.in-Some.unit, c.in-Some.user) c.in-Some.is
    c.next.ensures.steps in
    mapped_next c.args.listed.items c.loop-unit.yielded (c.in-Some.unit, c.in-Some.user) c.loop-unit.map.entries c.put.new.map.entries c.requires.rising
    c.loop-unit.invariant c.in_ok-put.ensures t.0 t.1

pub loop-unit-preserved-derived : goal.loop-unit-preserved-derived
loop-unit-preserved-derived c = grind (arith, common_steps)

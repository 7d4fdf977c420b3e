use Rattle.kc_builder.specs.checker.GatheredItems.{target_key, gathered_reverse_dependency}
use Rattle.kc_builder.proofs.ItemSteps.{IsRest}
use Rattle.kc_builder.proofs.definition_attributes.push_reverse_dependencies.Given as goal

abbrev pub invariant-loop-i : goal.invariant-loop-i
invariant-loop-i l = IsRest (target_key l.own.names.now l.forcing) (gathered_reverse_dependency l.own.names.now l.forcing l.symbol) l.fn.found l.found
    l.own.lines.now l.own.conditions.now l.i

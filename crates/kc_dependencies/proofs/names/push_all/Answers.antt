use Rattle.kc_dependencies.proofs.Common.{arith, common_steps}
use Rattle.kc_dependencies.proofs.Pushes.{any_pushed}
use Rattle.kc_dependencies.proofs.names.push_all.Goals as goal

pub loop-part-preserved : goal.loop-part-preserved
loop-part-preserved g c = record {
  names = λ p. any_pushed (g.P.MentionsNames.passes c.args.tree.now p) c.args.parts.now c.loop-part.part-index c.part-item.result _ _ _ (omega arith)
      c.part-item.is (c.in_ok-push_names.ensures.names p) (c.loop-part.invariant.names p);
  found = c.in_ok-push_names.ensures.found;
}

pub push_names-requires-clause-fits : goal.push_names-requires-clause-fits
push_names-requires-clause-fits g c = grind (arith, common_steps)

pub returns-clause-names : goal.returns-clause-names
returns-clause-names g c = grind (arith, common_steps)

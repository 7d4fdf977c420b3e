use Rattle.kc_dependencies.proofs.Common.{◌∙◌, subst, arith, common_steps, LinksBelow}
use Rattle.kc_dependencies.proofs.Chains.{linked}
use Rattle.kc_dependencies.proofs.dependencies.links_of.Goals as goal

pub loop-u-preserved : goal.loop-u-preserved
loop-u-preserved c = record {
  links = linked c.args.tree.now.tree c.loop-u.u c.loop-u.made.starts.items c.loop-u.made.links.items c.as_slice.result.now c.link.new.links.starts.items
      c.link.new.links.links.items c.loop-u.invariant.links (c.as_slice.ensures.value ∙ c.in_ok-needed.ensures.needed) c.in_ok-link.ensures.links
      c.in_ok-link.ensures.starts;
  room = c.in_ok-needed.ensures.room;
}

pub returns : goal.returns
returns c =
    subst (λ n. LinksBelow c.args.tree.now.tree n c.loop-u.made.starts.items c.loop-u.made.links.items)
    (omega (arith, c.loop-u.auto.u-end, c.loop-u-test.false, c.len-u-end.ensures)) c.loop-u.invariant.links

pub needed-requires-clause-unit : goal.needed-requires-clause-unit
needed-requires-clause-unit c = grind (arith, common_steps)

pub needed-requires-clause-room : goal.needed-requires-clause-room
needed-requires-clause-room c = grind (arith, common_steps)

use Rattle.kc_dependencies.proofs.Common.{eqb, rules, arith, common_steps}
use Rattle.std.proofs.lemmas.List.Filters.{dedup_is}
use Rattle.kc_dependencies.proofs.Chains.{sorted_needs}
use Rattle.kc_dependencies.proofs.dependencies.needed.Goals as goal

pub returns-clause-needed : goal.returns-clause-needed
returns-clause-needed c =
    let found = c.push_needed.new.needs.units.items in
    let sorted = c.sort_unstable.new.self.items in
    let last = c.dedup.new.self.items in
    sorted_needs c.args.tree.now.tree c.args.u found sorted last c.requires.unit c.in_ok-push_needed.ensures.units c.in_ok-push_needed.ensures.below
    c.sort_unstable.ensures.permutation c.sort_unstable.ensures.sorted (dedup_is eqb sorted last c.dedup.ensures.filtered)

pub push_needed-requires-clause-begun : goal.push_needed-requires-clause-begun
push_needed-requires-clause-begun c = search rules

pub returns-clause-room : goal.returns-clause-room
returns-clause-room c = grind (arith, common_steps)

use Rattle.std.proofs.Common.{eqb}
use Rattle.std.proofs.lemmas.List.Filters.{dedup_is}
use Rattle.std.proofs.lemmas.Map.Keys.{IsStrictlyIncreasing-dedup}
use Rattle.kc_expr.proofs.ExpressionNameLemmas.{reported_in, in_reported}
use Rattle.kc_expr.proofs.StoreLemmas.{within_nodes}
use Rattle.kc_expr.proofs.arena.Arena.names.Goals as goal

pub push_names-requires-clause-there : goal.push_names-requires-clause-there
push_names-requires-clause-there c = rw c.index.ensures (within_nodes c.args.self.now c.self.inside.store c.args.id c.self.view_is c.requires.there)

pub returns-clause-ascending : goal.returns-clause-ascending
returns-clause-ascending c =
    let d = dedup_is eqb c.sort_unstable.new.self.items c.dedup.new.self.items c.dedup.ensures.filtered in
    rw d (IsStrictlyIncreasing-dedup c.sort_unstable.new.self.items c.sort_unstable.ensures.sorted)

pub returns-clause-exact : goal.returns-clause-exact
returns-clause-exact c =
    let d = dedup_is eqb c.sort_unstable.new.self.items c.dedup.new.self.items c.dedup.ensures.filtered in
    λ i. (
      reported_in c.args.self.now c.self.inside.store c.self.view_is c.args.id c.index.result c.index.ensures c.self.invariant c.new-found.result.items
          c.push_names.new.found.items c.sort_unstable.new.self.items c.dedup.new.self.items c.new-found.ensures.items c.in_ok-push_names.ensures.words
          c.in_ok-push_names.ensures.held c.sort_unstable.ensures.permutation d i,
      in_reported c.args.self.now c.self.inside.store c.self.view_is c.args.id c.index.result c.index.ensures c.self.invariant c.new-found.result.items
          c.push_names.new.found.items c.sort_unstable.new.self.items c.dedup.new.self.items c.new-found.ensures.items c.in_ok-push_names.ensures.words
          c.in_ok-push_names.ensures.held c.sort_unstable.ensures.permutation d i,
    )

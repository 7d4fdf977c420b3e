use Rattle.kc_dependencies.proofs.Common.{◌≡◌, length, LinksBelow}
use Rattle.kc_dependencies.proofs.dependencies.links_of.Given as goal

abbrev pub invariant-loop-u : goal.invariant-loop-u
invariant-loop-u l = record {
  links : LinksBelow l.tree.tree l.u l.made.starts.items l.made.links.items;
  room : length l.needs.found.visited ≡ length l.tree.exprs.nodes;
}

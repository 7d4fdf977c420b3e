use Rattle.std.proofs.Common.{rules}
use Rattle.kmin_expansions.proofs.TreeFolders.{expansion_below}
use Rattle.kmin_expansions.proofs.expanded_trees.expansion_below.Goals as goal

pub returns-clause-expanded : goal.returns-clause-expanded
returns-clause-expanded g c =
    expansion_below _ _ (g.F.Files.surroundings c.args.files.now) _ _ _ (g.F.Files.failures c.args.files.now)
    (g.F.Files.failures c.expand.new.files.files.now) _ _ _ _ c.as_bytes.ensures.value (search rules) c.in_ok-notices.ensures.expanded

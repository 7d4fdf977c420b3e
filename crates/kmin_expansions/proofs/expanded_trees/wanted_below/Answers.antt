use Rattle.std.proofs.Common.{rules}
use Rattle.kmin_expansions.proofs.TreeFolders.{listed_below}
use Rattle.kmin_expansions.proofs.expanded_trees.wanted_below.Goals as goal

pub returns-clause-asked : goal.returns-clause-asked
returns-clause-asked g c = λ recorded are.
    listed_below c.args.questions.now.unused _ _ (g.F.Files.surroundings c.args.files.now) _ _ (g.F.Files.failures c.args.files.now)
    (g.F.Files.failures c.listed_in.new.tree.files.now) _ _ recorded _ (search rules) (c.in_ok-listed.ensures.listed recorded are)

use Rattle.kmin_trees.proofs.Common.{ℕ, List, subst}
use Rattle.kmin_trees.specs.between.Readings.{IsReadWith}
use Rattle.kmin_trees.proofs.tree_files.gather_wanted.Goals as goal

pub returns-clause-below : goal.returns-clause-below
returns-clause-below g c = c.open_wanted.ensures.gathered.below

pub returns-clause-read : goal.returns-clause-read
returns-clause-read g c =
    subst (λ (f : List ℕ). IsReadWith _ g.L.KeptLines.are_of c.open_wanted.new.self.texts f c.read-read.result) c.open_wanted.ensures.gathered.first
    c.read-read.ensures

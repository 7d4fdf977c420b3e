use Rattle.kmin_trees.proofs.Gatherings.{still_below, gathers_on}
use Rattle.kmin_trees.proofs.tree_files.Gathering.open_first.Goals as goal

pub open_ahead-requires : goal.open_ahead-requires
open_ahead-requires g c = record { below = still_below _ _ _ _ _ _ c.insert_one.ensures.gathered }

pub returns : goal.returns
returns g c = record { gathered = gathers_on _ _ _ _ _ _ _ _ _ c.insert_one.ensures.gathered c.open_ahead.ensures.gathered }

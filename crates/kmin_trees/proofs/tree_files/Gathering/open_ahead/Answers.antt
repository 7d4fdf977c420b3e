use Rattle.kmin_trees.proofs.Gatherings.{still_below, gathers_on, gathers_none}
use Rattle.kmin_trees.proofs.tree_files.Gathering.open_ahead.Goals as goal

pub loop-number-init : goal.loop-number-init
loop-number-init g c = gathers_none _ _ _ c.requires.below

pub insert_all-requires : goal.insert_all-requires
insert_all-requires g c = record { below = still_below _ _ _ _ _ _ c.loop-number.invariant }

pub loop-number-preserved : goal.loop-number-preserved
loop-number-preserved g c = gathers_on _ _ _ _ _ _ _ _ _ c.loop-number.invariant c.insert_all.ensures.gathered

pub returns-in_err-insert_all : goal.returns-in_err-insert_all
returns-in_err-insert_all g c = record { gathered = gathers_on _ _ _ _ _ _ _ _ _ c.loop-number.invariant c.insert_all.ensures.gathered }

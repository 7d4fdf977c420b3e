use Rattle.kmin_trees.proofs.Gatherings.{still_below, gathers_on, gathers_none, lacks_after}
use Rattle.kmin_trees.proofs.tree_files.Gathering.open_wanted.Goals as goal

pub rounds-init : goal.rounds-init
rounds-init g c = gathers_none _ _ _ c.requires.below

pub open_round-requires : goal.open_round-requires
open_round-requires g c = record { below = still_below _ _ _ _ _ _ c.rounds.invariant }

pub rounds-preserved : goal.rounds-preserved
rounds-preserved g c = gathers_on _ _ _ _ _ _ _ _ _ c.rounds.invariant c.open_round.ensures.gathered

pub returns-in_err-open_round-clause-gathered : goal.returns-in_err-open_round-clause-gathered
returns-in_err-open_round-clause-gathered g c = gathers_on _ _ _ _ _ _ _ _ _ c.rounds.invariant c.open_round.ensures.gathered

pub returns-clause-gathered : goal.returns-clause-gathered
returns-clause-gathered g c = gathers_on _ _ _ _ _ _ _ _ _ c.rounds.invariant c.open_round.ensures.gathered

pub returns-clause-missing : goal.returns-clause-missing
returns-clause-missing g c =
    lacks_after _ _ _ _ _ _ _ c.rounds.invariant c.open_round.new.self.texts c.open_round.ensures.gathered.rising
    (c.in_ok-open_round.ensures.missing c.if-branch.false)

use Rattle.kmin_outputs.proofs.Sequences.{lists_pushed}
use Rattle.kmin_outputs.proofs.configurations.add_fragment.Goals as goal

pub returns-clause-chosen : goal.returns-clause-chosen
returns-clause-chosen c = lists_pushed _ _ _ c.in_ok-push.ensures.items

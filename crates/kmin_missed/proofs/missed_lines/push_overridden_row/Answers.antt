use Rattle.kmin_missed.proofs.Common.{joined_three}
use Rattle.kmin_missed.proofs.missed_lines.push_overridden_row.Goals as goal

pub returns : goal.returns
returns c = λ read meanings.
    joined_three c.args.out.now.items _ _ _ _ _ _ (c.in_ok-push_asking_front.ensures read meanings) (c.in_ok-push_overridden_by.ensures read meanings)
    c.in_ok-extend_from_slice.ensures.items

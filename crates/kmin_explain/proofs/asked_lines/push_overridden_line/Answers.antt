use Rattle.kmin_explain.proofs.AskedTexts.{four_appended}
use Rattle.kmin_explain.proofs.asked_lines.push_overridden_line.Goals as goal

pub returns : goal.returns
returns c = λ read meanings.
    four_appended c.args.out.now.items _ _ _ _ _ _ _ _ c.in_ok-extend_from_slice.ensures.items (c.in_ok-push_asks_at.ensures read meanings) (c.in_ok-push_overridden_by.ensures read meanings)
    c.in_ok-extend_from_slice-2.ensures.items

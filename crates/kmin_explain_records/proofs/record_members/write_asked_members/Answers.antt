use Rattle.kmin_explain_records.proofs.Common.{wrote, and_last, as_end}
use Rattle.kmin_explain_records.proofs.record_members.write_asked_members.Goals as goal

pub returns : goal.returns
returns c = λ read meanings are.
    and_last _ _ _ _ _ _ (wrote _ _ _ _ c.in_ok-key.ensures)
    (and_last _ _ _ _ _ _ (c.in_ok-write_asked_list.ensures read meanings are)
    (and_last _ _ _ _ _ _ (wrote _ _ _ _ c.in_ok-key-2.ensures) (as_end c.write_hindrance.result _ _ _ c.write_hindrance.ensures)))

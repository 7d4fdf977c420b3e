use Rattle.kmin_explain_records.proofs.Common.{position_view, wrote, and_then, and_last, last_write, as_last, object_is, position_members}
use Rattle.kmin_explain_records.proofs.record_members.write_position_object.Goals as goal

pub returns : goal.returns
returns c =
    as_last c.end_object.result _ _ _ _ (object_is (position_members c.args.paths.now (position_view c.args.at)))
    (and_last _ _ _ _ _ _ (and_then _ _ _ _ _ (wrote _ _ _ _ c.in_ok-begin_object.ensures) c.in_ok-write_position.ensures) (last_write _ _ _ _ c.end_object.ensures))

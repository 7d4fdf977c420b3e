use Rattle.kmin_messages.proofs.WriterSteps.{wrote, and_last}
use Rattle.kmin_explain_records.proofs.record_members.write_defined_at.Goals as goal

pub returns : goal.returns
returns c = and_last _ _ _ _ _ _ (wrote _ _ _ _ c.in_ok-key.ensures) c.write_position_object.ensures

use Rattle.kmin_messages.proofs.WriterSteps.{wrote, and_last}
use Rattle.kmin_records.proofs.JsonLists.{last_write}
use Rattle.kmin_records.proofs.members.write_place.Goals as goal

pub returns : goal.returns
returns c = and_last _ _ _ _ _ _ c.in_ok-write_text.ensures (and_last _ _ _ _ _ _ (wrote _ _ _ _ c.in_ok-key.ensures) (last_write _ _ _ _ c.u64.ensures))

use Rattle.kmin_messages.proofs.WriterSteps.{wrote, and_then, and_last}
use Rattle.kmin_messages.proofs.object_line.write_rest.Goals as goal

pub returns : goal.returns
returns c =
    and_last _ _ _ _ _ _
    (and_then _ _ _ _ _ (and_then _ _ _ _ _ (and_then _ _ _ _ _ (wrote _ _ _ _ c.in_ok-key.ensures) (wrote _ _ _ _ (rw c.from.ensures at c.in_ok-u64.ensures))) c.in_ok-write_string.ensures)
    (wrote _ _ _ _ c.in_ok-key-2.ensures))
    c.write_names.ensures

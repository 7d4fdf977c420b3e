use Rattle.kmin_messages.proofs.WriterSteps.{wrote, and_then, and_last}
use Rattle.kmin_messages.proofs.object_line.write_head.Goals as goal

pub returns : goal.returns
returns c =
    and_last _ _ _ _ _ _
    (and_then _ _ _ _ _ (and_then _ _ _ _ _ c.in_ok-write_string.ensures (rw c.name.ensures at c.in_ok-write_string-2.ensures)) (wrote _ _ _ _ c.in_ok-key.ensures))
    c.write_file.ensures

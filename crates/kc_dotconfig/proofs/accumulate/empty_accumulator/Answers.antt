use Rattle.std.proofs.Common.{refl}
use Rattle.kc_dotconfig.proofs.Insertions.{gathers_none}
use Rattle.kc_dotconfig.proofs.accumulate.empty_accumulator.Goals as goal

pub returns : goal.returns
returns c = λ tree.
    gathers_none tree (record { assigns = c.new.result; members = c.new-2.result; chosen = c.new-3.result; notices = c.new-4.result; lines = 0; next = 0 }) c.new.ensures
    c.new-2.ensures.empty c.new-4.ensures.items c.new-3.ensures.items refl

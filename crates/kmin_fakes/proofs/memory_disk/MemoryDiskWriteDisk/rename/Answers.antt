use Rattle.std.proofs.Common.{List, ap, subst}
use Rattle.kmin_fakes.specs.MemoryDisks.{AppendsRename}
use Rattle.kmin_fakes.specs.declared.memory_disk.Event.{Event}
use Rattle.kmin_fakes.proofs.MemorySteps.{renames_in_memory}
use Rattle.kmin_fakes.proofs.memory_disk.MemoryDiskWriteDisk.rename.Goals as goal

pub returns-in-Ok-clause-renamed : goal.returns-in-Ok-clause-renamed
returns-in-Ok-clause-renamed c =
    let new = c.move_to_target.new.self.log.items in
    let moved = subst (λ (es : List Event). AppendsRename es new c.args.new) (ap (λ l. l.items) c.fails.ensures.log) c.in-Ok.ensures.moved in
    renames_in_memory c.args.self.now.log.items new c.args.new c.in-Some.ensures.apart moved

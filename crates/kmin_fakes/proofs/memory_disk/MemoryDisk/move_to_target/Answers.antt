use Rattle.std.proofs.Common.{refl, rules, string_bytes}
use Rattle.kmin_fakes.specs.declared.memory_disk.Event.TheVariants.{Renamed}
use Rattle.kmin_fakes.proofs.MemorySteps.{appends_rename}
use Rattle.kmin_fakes.proofs.memory_disk.MemoryDisk.move_to_target.Goals as goal

pub returns-clause-moved : goal.returns-clause-moved
returns-clause-moved c =
    let new = c.args.new.now in
    let event = Renamed c.in_ok-from.from c.in_ok-to.to c.args.bytes in
    appends_rename c.args.self.now.log.items c.push.new.self.items event (string_bytes c.in_ok-from.from) (string_bytes c.in_ok-to.to) c.args.bytes.now new
    (λ any history. refl) (search rules) (search rules) c.requires.bytes c.in_ok-push.ensures.items

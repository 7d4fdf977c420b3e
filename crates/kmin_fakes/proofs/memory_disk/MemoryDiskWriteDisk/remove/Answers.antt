use Rattle.std.proofs.Common.{refl, ap, ◌∙◌, ◌++◌, ◌∷◌, [], string_bytes}
use Rattle.kmin_fakes.specs.declared.memory_disk.Event.{Event}
use Rattle.kmin_fakes.specs.declared.memory_disk.Event.TheVariants.{Holds}
use Rattle.kmin_fakes.specs.declared.memory_disk.MemoryContent.TheVariants.{Nothing}
use Rattle.kmin_fakes.proofs.MemorySteps.{appends_holds, removes_in_memory}
use Rattle.kmin_fakes.proofs.memory_disk.MemoryDiskWriteDisk.remove.Goals as goal

pub returns-in-Ok-clause-removed : goal.returns-in-Ok-clause-removed
returns-in-Ok-clause-removed c =
    let old = c.args.self.now.log.items in
    let new = c.push.new.self.items in
    let event : Event = Holds c.args.new.path Nothing in
    removes_in_memory old new c.args.new (appends_holds old new event (string_bytes c.args.new.path) (string_bytes c.args.new.path) Nothing
    (λ any history. refl) refl (c.in-Ok.ensures.items ∙ ap (λ l. l.items ++ event ∷ []) c.fails.ensures.log))

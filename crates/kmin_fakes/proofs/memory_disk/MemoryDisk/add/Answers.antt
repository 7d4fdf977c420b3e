use Rattle.std.proofs.Common.{refl}
use Rattle.kmin_fakes.specs.declared.memory_disk.Event.TheVariants.{Holds}
use Rattle.kmin_fakes.proofs.MemorySteps.{appends_holds}
use Rattle.kmin_fakes.proofs.memory_disk.MemoryDisk.add.Goals as goal

pub returns-clause-added : goal.returns-clause-added
returns-clause-added c = appends_holds _ _ (Holds c.in_ok-path.path c.args.content) _ _ c.args.content
    (λ any history. refl) c.in_ok-path.ensures.ok c.in_ok-push.ensures.items

use Rattle.std.proofs.Common.{◌≡◌, ◌∷◌, [], Some, take}
use Rattle.kmin_disk.specs.Contents.{nothing}
use Rattle.kmin_disk.specs.Disks.{newest}
use Rattle.kmin_fakes.specs.MemoryDisks.{content_view, history_from}
use Rattle.kmin_fakes.proofs.memory_disk.MemoryDisk.content.Given as goal

abbrev pub invariant-loop-event : goal.invariant-loop-event
invariant-loop-event l = newest (history_from (nothing ∷ []) (take l.event-index l.event-items) l.path) ≡ Some (content_view l.content)

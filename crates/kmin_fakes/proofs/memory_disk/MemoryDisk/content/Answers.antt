use Rattle.kmin_fakes.specs.MemoryDisks.{content_view}
use Rattle.kmin_fakes.proofs.MemorySteps.{newest-next}
use Rattle.kmin_fakes.proofs.memory_disk.MemoryDisk.content.Goals as goal

pub loop-event-preserved : goal.loop-event-preserved
loop-event-preserved c = newest-next c.deref-event-items.result.now c.loop-event.event-index c.event-item.result c.args.path.now
    (content_view c.loop-event.content) (content_view c.content_after-content.result) c.loop-event-test.true c.event-item.is c.content_after-content.ensures
    c.loop-event.invariant

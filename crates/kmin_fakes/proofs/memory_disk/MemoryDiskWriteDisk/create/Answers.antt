use Rattle.std.proofs.Common.{◌≡◌, ◌≢◌, Some, rules, subst, List, ap}
use Rattle.kmin_disk.specs.Contents.{nothing}
use Rattle.kmin_disk.specs.Disks.{newest}
use Rattle.kmin_fakes.specs.MemoryDisks.{memory_state, AppendsHolds}
use Rattle.kmin_fakes.specs.declared.memory_disk.Event.{Event}
use Rattle.kmin_fakes.specs.declared.memory_disk.MemoryContent.TheVariants.{Unfinished}
use Rattle.kmin_fakes.proofs.MemorySteps.{creates_in_memory}
use Rattle.kmin_fakes.proofs.memory_disk.MemoryDiskWriteDisk.create.Goals as goal

pub returns-in-Ok-clause-made : goal.returns-in-Ok-clause-made
returns-in-Ok-clause-made c =
    let old = c.args.self.now.log.items in
    let path = c.args.path.now in
    let new_path = c.args.new_path.now in
    let made = c.in-Ok.new in
    let log = c.fails.ensures.log in
    let began = subst (λ (es : List Event). AppendsHolds es c.begin.new.self.log.items new_path Unfinished) (ap (λ l. l.items) log) c.in-Ok.ensures.began in
    let apart : new_path ≢ path = search rules in
    let free : newest ((memory_state old).history new_path) ≡ Some nothing =
    subst (λ (es : List Event). newest ((memory_state es).history new_path) ≡ Some nothing) (ap (λ l. l.items) log) c.in-Nothing.ensures in
    creates_in_memory old c.begin.new.self.log.items path new_path made began c.in-Ok.ensures.draft.0 c.in-Ok.ensures.draft.1 c.in-Ok.ensures.draft.2 c.in-Ok.ensures.draft.3 apart free

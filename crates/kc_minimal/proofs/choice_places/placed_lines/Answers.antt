use Rattle.kc_minimal.proofs.ChoiceGroups.{placed_next}
use Rattle.kc_minimal.proofs.choice_places.placed_lines.Goals as goal

pub loop-file-preserved : goal.loop-file-preserved
loop-file-preserved c =
    placed_next c.args.files.now c.loop-file.file c.index-files-file.result c.as_slice.result.now c.loop-file.lines.items c.add_lines.new.all.items
    c.loop-file-test.true c.index-files-file.is c.as_slice.ensures.value c.loop-file.invariant c.in_ok-add_lines.ensures

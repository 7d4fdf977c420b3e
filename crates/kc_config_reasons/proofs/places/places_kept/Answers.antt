use Rattle.kc_config_reasons.specs.checker.PlaceSteps.{places_kept}
use Rattle.kc_config_reasons.proofs.PlaceLaws.{one_more}
use Rattle.kc_config_reasons.proofs.places.places_kept.Goals as goal

pub loop-file-preserved : goal.loop-file-preserved
loop-file-preserved c =
    one_more c.args.unit c.args.s c.args.files.now c.loop-file.file c.index-files-file.result c.line_for.result c.loop-file.found.items c.push_place.new.found.items
    (places_kept c.args.unit c.args.s 0 c.args.files.now) c.loop-file-test.true c.index-files-file.is c.line_for.ensures c.in_ok-push_place.ensures c.loop-file.invariant

use Rattle.kc_config_reasons.proofs.Common.{◌≡◌, ◌-◌, suc, map, drop, ap, ◌∙◌, arith, overridden, place_view}
use Rattle.kc_config_reasons.proofs.PlaceLaws.{more_overridden}
use Rattle.kc_config_reasons.proofs.places.overridden_among.Goals as goal

pub loop-i-preserved : goal.loop-i-preserved
loop-i-preserved c =
    let next : c.loop-i.i ≡ suc (c.loop-i.i - 1) = omega arith in record {
      found = more_overridden c.args.places.now (c.loop-i.i - 1) c.index-places-i.result c.place_asking_otherwise-by.result c.loop-i.found.items c.push_overridden.new.found.items
          (omega arith) c.index-places-i.is c.place_asking_otherwise-by.ensures.value
          (c.loop-i.invariant.found ∙ ap (λ n. overridden (map place_view (drop n c.args.places.now))) next) c.in_ok-push_overridden.ensures;
      by = c.place_asking_otherwise-by.ensures.value;
    }

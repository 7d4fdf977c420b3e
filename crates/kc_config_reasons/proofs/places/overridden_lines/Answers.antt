use Rattle.kc_config_reasons.proofs.Common.{sym, map, place_view}
use Rattle.kc_config_reasons.proofs.PlaceLaws.{all_found}
use Rattle.kc_config_reasons.proofs.places.overridden_lines.Goals as goal

pub returns : goal.returns
returns c =
    all_found c.args.unit c.args.s c.args.files.now c.overridden_among.result (map place_view c.in_ok-places.places.items) c.in_ok-places.ensures
    (rw (sym c.deref.ensures.value) c.overridden_among.ensures)

use Rattle.kc_config_reasons.proofs.Common.{◌≡◌, map, drop, reverse, option_map, overridden, place_view, overridden_view, place_asking_otherwise}
use Rattle.kc_config_reasons.proofs.places.overridden_among.Given as goal

abbrev pub invariant-loop-i : goal.invariant-loop-i
invariant-loop-i l = record {
  found : map overridden_view (reverse l.found.items) ≡ overridden (map place_view (drop l.i l.places));
  by : option_map place_view l.by ≡ place_asking_otherwise (map place_view (drop l.i l.places));
}

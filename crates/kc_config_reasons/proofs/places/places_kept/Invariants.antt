use Rattle.kc_config_reasons.proofs.Common.{◌≡◌, ◌++◌, map, drop, place_view, places_kept}
use Rattle.kc_config_reasons.proofs.places.places_kept.Given as goal

abbrev pub invariant-loop-file : goal.invariant-loop-file
invariant-loop-file l = map place_view l.found.items ++ places_kept l.unit l.s l.file (drop l.file l.files) ≡ places_kept l.unit l.s 0 l.files

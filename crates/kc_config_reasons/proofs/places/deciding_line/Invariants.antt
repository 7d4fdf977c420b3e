use Rattle.kc_config_reasons.proofs.Common.{◌≡◌, None, drop, place_kept}
use Rattle.kc_config_reasons.proofs.places.deciding_line.Given as goal

abbrev pub invariant-loop-file : goal.invariant-loop-file
invariant-loop-file l = place_kept l.unit l.s l.file (drop l.file l.files) ≡ None

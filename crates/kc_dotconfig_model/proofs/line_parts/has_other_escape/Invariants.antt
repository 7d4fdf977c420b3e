use Rattle.kc_dotconfig_model.proofs.Common.{◌≡◌, false, drop, has_other_escape}
use Rattle.kc_dotconfig_model.proofs.line_parts.has_other_escape.Given as goal

-- the bytes from the current one on decide
abbrev pub invariant-loop-byte : goal.invariant-loop-byte
invariant-loop-byte l = has_other_escape false l.fn.spelling ≡ has_other_escape l.escaped (drop l.byte-index l.fn.spelling)

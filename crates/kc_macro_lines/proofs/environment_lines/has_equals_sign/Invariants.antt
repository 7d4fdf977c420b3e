use Rattle.kc_macro_lines.proofs.Common.{◌≡◌, take, has_equals_sign}
use Rattle.kc_macro_lines.proofs.environment_lines.has_equals_sign.Given as goal

-- `found` is whether a `=` is among the bytes passed so far
abbrev pub invariant-loop-byte : goal.invariant-loop-byte
invariant-loop-byte l = l.found ≡ has_equals_sign (take l.byte-index l.text)

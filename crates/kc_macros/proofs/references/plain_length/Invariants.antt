use Rattle.kc_macros.proofs.Common.{◌≡◌, ◌++◌, false, map, take, drop, byte, items}
use Rattle.kc_macros.proofs.references.plain_length.Given as goal

-- no reference begins at one of the first `i` bytes of the text
abbrev pub invariant-bytes : goal.invariant-bytes
invariant-bytes l = items false 0 l.text ≡ map byte (take l.i l.text) ++ items false 0 (drop l.i l.text)

use Rattle.kc_value.proofs.Common.{◌≡◌, ◌++◌, ◌∷◌, take, flat_map, escaped_byte}
use Rattle.kc_value.proofs.quoted_texts.push_quoted.Given as goal

abbrev pub invariant-loop-byte : goal.invariant-loop-byte
invariant-loop-byte l = l.out.items ≡ l.fn.out.items ++ 34 ∷ flat_map escaped_byte (take l.byte-index l.byte-items)

use Rattle.kc_macro_lines.proofs.Common.{◌≡◌, take, has_dollar_or_wide}
use Rattle.kc_macro_lines.proofs.marked_bytes.bytes_have_mark.Given as goal

-- `found` is whether a `$` or a byte that isn't ASCII is among the bytes passed so far
abbrev pub invariant-loop-byte : goal.invariant-loop-byte
invariant-loop-byte l = l.found ≡ has_dollar_or_wide (take l.byte-index l.text)

use Rattle.kc_tokens.proofs.Common.{◌≡◌, ◌+◌, drop, length, take_while, is_word_byte}
use Rattle.kc_tokens.proofs.byte_kinds.word_len.Given as goal

abbrev pub invariant-loop-i : goal.invariant-loop-i
invariant-loop-i l = l.i + length (take_while is_word_byte (drop l.i l.bytes)) ≡ length (take_while is_word_byte l.bytes)

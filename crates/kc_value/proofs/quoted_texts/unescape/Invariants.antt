use Rattle.kc_value.proofs.Common.{◌≡◌, ◌++◌, drop, length, false, string_bytes, encode_utf8_all, chars, unescaped}
use Rattle.kc_value.proofs.quoted_texts.unescape.Given as goal

abbrev pub invariant-loop-c : goal.invariant-loop-c
invariant-loop-c l =
    string_bytes l.read ++ unescaped l.escaped (encode_utf8_all (drop (length l.yielded) (chars l.text))) ≡ unescaped false l.fn.text

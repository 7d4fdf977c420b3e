use Rattle.std.proofs.Common.{◌≡◌, ◌+◌, ◌-◌, ◌<◌, ◌≤◌, true, length, take, get_or}
use Rattle.std.specs.List.{suffix_len}
use Rattle.kc_tokens.specs.Token.{is_white_byte}
use Rattle.kc_tokens.proofs.byte_kinds.white_end.Given as goal

-- the bytes of the text from `end` on are white
abbrev pub invariant-loop-end : goal.invariant-loop-end
invariant-loop-end l = record {
  within : l.end ≤ length l.text;
  white : l.end < length l.text → is_white_byte (get_or l.text l.end 0) ≡ true;
  counted : suffix_len is_white_byte l.text ≡ (length l.text - l.end) + suffix_len is_white_byte (take l.end l.text);
}

abbrev pub decreases-loop-end : goal.decreases-loop-end
decreases-loop-end l = l.end

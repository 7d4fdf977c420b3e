use Rattle.kc_tokens.proofs.Common.{◌≡◌, ◌-◌, drop, take, length, IsCharBoundary, lexemes_from, lexemes_of, with_front}
use Rattle.kc_tokens.proofs.token.scan_line.Given as goal

abbrev pub invariant-loop-at : goal.invariant-loop-at
invariant-loop-at l = record {
  read : with_front (lexemes_of l.found.items) (lexemes_from l.fn.language 0 l.at (drop l.at l.fn.line))
      ≡ with_front (lexemes_of l.fn.found.items) (lexemes_from l.fn.language 0 0 l.fn.line);
  kept : take (length l.fn.found.items) l.found.items ≡ l.fn.found.items;
  cut : IsCharBoundary l.fn.line l.at;
}

abbrev pub decreases-loop-at : goal.decreases-loop-at
decreases-loop-at l = length l.bytes - l.at

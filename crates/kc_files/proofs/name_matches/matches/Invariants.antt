use Rattle.kc_files.proofs.Common.{◌≤◌, length, drop, HasEndMatches}
use Rattle.kc_files.proofs.name_matches.matches.Given as goal

abbrev pub invariant-loop-left : goal.invariant-loop-left
invariant-loop-left l = record {
  within : l.left ≤ length l.piece;
  ends : HasEndMatches (drop l.left l.piece) l.name l.ends.items;
}

abbrev pub decreases-loop-left : goal.decreases-loop-left
decreases-loop-left l = l.left

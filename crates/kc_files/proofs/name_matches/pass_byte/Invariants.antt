use Rattle.std.proofs.Common.{◌≡◌, ℕ, suc, ◌<◌, ◌≤◌, ◌||◌, ◌&&◌, ◌==◌, false, get_or}
use Rattle.kc_files.proofs.name_matches.pass_byte.Given as goal

abbrev pub invariant-loop-at : goal.invariant-loop-at
invariant-loop-at l = record {
  front : (k : ℕ) → k < l.at → get_or l.ends k false ≡ ((l.byte == get_or l.name k 0 || (l.byte == 63)) && get_or l.initial.ends (suc k) false);
  back : (k : ℕ) → l.at ≤ k → get_or l.ends k false ≡ get_or l.initial.ends k false;
}

use Rattle.kc_files.proofs.Common.{◌≡◌, ◌+◌, ◌≤◌, ◌==◌, not, length, take, suffix_len}
use Rattle.kc_files.proofs.paths.folder_of.Given as goal

abbrev pub invariant-loop-end : goal.invariant-loop-end
invariant-loop-end l = record {
  within : l.end ≤ length l.path;
  trimmed : l.end + suffix_len (λ c. not (c == 47)) l.path ≡ length l.path + suffix_len (λ c. not (c == 47)) (take l.end l.path);
}

abbrev pub decreases-loop-end : goal.decreases-loop-end
decreases-loop-end l = l.end

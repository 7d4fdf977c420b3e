use Rattle.std.proofs.Common.{filter}
use Rattle.kmin_lines.proofs.Common.{◌≡◌, true, ◌++◌, length, map, list_all, is_utf8, pieces}
use Rattle.kmin_lines.specs.Lists.{paths_in, is_one_line, ender_of, has_bytes}
use Rattle.kmin_lines.proofs.list.listed_paths.Given as goal

abbrev pub invariant-loop-piece : goal.invariant-loop-piece
invariant-loop-piece l = record {
  whole : map (λ path. path.now) l.paths.items ++ filter has_bytes (pieces (ender_of l.fn.ended_by_nul) l.rest) ≡ paths_in l.fn.ended_by_nul l.fn.list;
  ender : l.ender ≡ ender_of l.fn.ended_by_nul;
  utf8 : list_all is_utf8 (map (λ path. path.now) l.paths.items) ≡ true;
  one_line : list_all is_one_line (map (λ path. path.now) l.paths.items) ≡ true;
}

abbrev pub decreases-loop-piece : goal.decreases-loop-piece
decreases-loop-piece l = length l.rest

use Rattle.kc_files.proofs.Common.{length, Place, paths_below, path_pieces, texts_of, StaysKnown, Grows, HaveSameOutcome, known_of}
use Rattle.kc_files.proofs.patterns.paths_below.Given as goal

abbrev pub invariant-loop-cut : goal.invariant-loop-cut
invariant-loop-cut g l = record {
  same : StaysKnown (g.F.TreeFiles.contents l.fn.files) (g.F.TreeFiles.contents l.files);
  grows : Grows (g.F.TreeFiles.contents l.fn.files) (g.F.TreeFiles.contents l.files) (known_of l.fn.store) (known_of l.store);
  rest : (at : Place) → HaveSameOutcome (known_of l.store) (paths_below at (path_pieces l.pattern) (texts_of l.fn.found.paths) l.fn.found.listed)
      (paths_below at (path_pieces l.rest) (texts_of l.found.paths) l.found.listed);
}

abbrev pub decreases-loop-cut : goal.decreases-loop-cut
decreases-loop-cut g l = length l.rest

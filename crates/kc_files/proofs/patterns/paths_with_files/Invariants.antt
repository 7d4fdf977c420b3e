use Rattle.kc_files.proofs.Common.{drop, paths_with_files, items_of, texts_of, StaysKnown, Grows, HaveSameOutcome, known_of}
use Rattle.kc_files.proofs.PatternLemmas.{rest_with_files}
use Rattle.kc_files.proofs.patterns.paths_with_files.Given as goal

abbrev pub invariant-loop-path : goal.invariant-loop-path
invariant-loop-path g l = record {
  same : StaysKnown (g.F.TreeFiles.contents l.fn.files) (g.F.TreeFiles.contents l.files);
  grows : Grows (g.F.TreeFiles.contents l.fn.files) (g.F.TreeFiles.contents l.files) (known_of l.fn.store) (known_of l.store);
  rest : HaveSameOutcome (known_of l.store) (paths_with_files (items_of l.paths)) (rest_with_files (items_of (drop l.path-index l.paths)) (texts_of l.found));
}

use Rattle.kc_files.proofs.Common.{drop, Place, paths_in_folders, items_of, StaysKnown, Grows, HaveSameOutcome, known_of, found_of}
use Rattle.kc_files.proofs.PatternLemmas.{rest_of_paths}
use Rattle.kc_files.proofs.patterns.paths_in_folders.Given as goal

abbrev pub invariant-loop-folder : goal.invariant-loop-folder
invariant-loop-folder g l = record {
  same : StaysKnown (g.F.TreeFiles.contents l.fn.files) (g.F.TreeFiles.contents l.files);
  grows : Grows (g.F.TreeFiles.contents l.fn.files) (g.F.TreeFiles.contents l.files) (known_of l.fn.store) (known_of l.store);
  rest : (at : Place) → HaveSameOutcome (known_of l.store) (paths_in_folders at l.piece (items_of l.folders) l.fn.listed)
      (rest_of_paths at l.piece (items_of (drop l.folder-index l.folders)) (found_of l.found));
}

use Rattle.std.proofs.Common.{◌≡◌, take}
use Rattle.kmin_expansions.specs.JobTexts.{with_expanded_files, no_texts}
use Rattle.kmin_expansions.proofs.expanded_trees.texts_of.Given as goal

abbrev pub invariant-loop-at : goal.invariant-loop-at
invariant-loop-at l = l.texts ≡ with_expanded_files (take l.at l.tree) (no_texts l.fn.language)

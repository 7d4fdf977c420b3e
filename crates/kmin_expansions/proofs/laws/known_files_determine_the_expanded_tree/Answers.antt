use Rattle.kmin_expansions.proofs.KnownExpansions.{known_texts}
use Rattle.kmin_expansions.proofs.laws.known_files_determine_the_expanded_tree.Goals as goal

pub returns : goal.returns
returns c = known_texts

use Rattle.kc_expansion.proofs.KnownExpansions.{known_files_determine}
use Rattle.kc_expansion.proofs.laws.known_files_determine_the_expansion.Goals as goal

pub returns : goal.returns
returns c = known_files_determine

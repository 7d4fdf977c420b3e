use Rattle.kmin_tidy.proofs.LawLemmas.{minimal_files_are_equal}
use Rattle.kmin_tidy.proofs.laws.files_with_the_same_values_get_the_same_bytes.Goals as goal

pub returns : goal.returns
returns c = minimal_files_are_equal

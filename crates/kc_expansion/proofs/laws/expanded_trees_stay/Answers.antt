use Rattle.kc_expansion.proofs.SecondExpansions.{expanded_trees_stay, all_files_stay, loses_a_file}
use Rattle.kc_expansion.proofs.laws.expanded_trees_stay.Goals as goal

pub returns : goal.returns
returns c = record { trees = expanded_trees_stay; all = all_files_stay; fewer = loses_a_file }

use Rattle.kc_tree_model.proofs.Consistency.Consistent.{tree_is_consistent}
use Rattle.kc_tree_model.proofs.laws.trees_are_consistent.Goals as goal

pub returns : goal.returns
returns c = tree_is_consistent

use Rattle.kc_tree_model.proofs.NestedTrees.ReadingNests.{reading_nests}
use Rattle.kc_tree_model.proofs.laws.reading_is_a_nested_tree.Goals as goal

pub returns : goal.returns
returns c = reading_nests

use Rattle.kmin_trees.proofs.TreeResults.{is_read}
use Rattle.kmin_trees.proofs.trees.read_texts.Goals as goal

pub returns : goal.returns
returns c = is_read c.args.texts.now c.args.first.now c.read_tree.result c.read_tree.ensures.tree c.read_tree.ensures.fault

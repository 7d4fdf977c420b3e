use Rattle.kc_tree_model.proofs.NestedTrees.FileCoverage.{each_file_read}
use Rattle.kc_tree_model.proofs.laws.each_file_is_read.Goals as goal

pub returns : goal.returns
returns c = each_file_read

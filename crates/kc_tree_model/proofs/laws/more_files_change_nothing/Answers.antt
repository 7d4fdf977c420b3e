use Rattle.kc_tree_model.proofs.MoreFiles.{more_files}
use Rattle.kc_tree_model.proofs.laws.more_files_change_nothing.Goals as goal

pub returns : goal.returns
returns c = more_files

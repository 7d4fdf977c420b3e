use Rattle.std.proofs.Common.{rules}
use Rattle.kmin_expansions.proofs.tree_folder.TreeFolderTreeFiles.open.Goals as goal

pub returns : goal.returns
returns g c = search rules

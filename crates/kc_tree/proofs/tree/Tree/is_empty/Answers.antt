use Rattle.std.proofs.Common.{rules}
use Rattle.kc_tree.proofs.tree.Tree.is_empty.Goals as goal

pub returns : goal.returns
returns c = search rules

use Rattle.std.proofs.Common.{rules}
use Rattle.kc_tree_model.proofs.ids.Sym.at.Goals as goal

pub returns : goal.returns
returns c = search rules

use Rattle.std.proofs.Common.{rules}
use Rattle.kc_tree_model.proofs.texts.Texts.with_seed.Goals as goal

pub returns : goal.returns
returns c = search rules

use Rattle.std.proofs.Common.{arith}
use Rattle.std.proofs.lemmas.Grind.{elements}
use Rattle.kc_tree_model.proofs.texts.Texts.path_at.Goals as goal

pub returns-in_err-path : goal.returns-in_err-path
returns-in_err-path c = grind (arith, elements)

pub returns : goal.returns
returns c = grind (arith, elements)

use Rattle.kc_tree_model.proofs.Common.{subst, arith, common_steps}
use Rattle.kc_tree_model.specs.TreeFiles.{HasDistinctPaths}
use Rattle.kc_tree_model.proofs.TextsLemmas.{distinct_paths}
use Rattle.kc_tree_model.proofs.texts.Texts.len.Goals as goal

pub returns-clause-distinct : goal.returns-clause-distinct
returns-clause-distinct c = subst HasDistinctPaths c.self.view_is (distinct_paths c.self.inside.files.entries c.len.ensures.unique)

pub returns-clause-len : goal.returns-clause-len
returns-clause-len c = grind (arith, common_steps)

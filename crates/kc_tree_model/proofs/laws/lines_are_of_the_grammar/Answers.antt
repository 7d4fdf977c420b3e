use Rattle.kc_tree_model.proofs.LineLaws.LogicalLines.{lines_are_so}
use Rattle.kc_tree_model.proofs.laws.lines_are_of_the_grammar.Goals as goal

pub returns : goal.returns
returns c = lines_are_so

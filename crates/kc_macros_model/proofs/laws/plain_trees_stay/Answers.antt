use Rattle.kc_macros_model.proofs.PlainTokens.{lines_without_dollars}
use Rattle.kc_macros_model.proofs.PlainLines.{plain_lines_stay, plain_files_stay}
use Rattle.kc_macros_model.proofs.PlainTrees.{plain_trees_stay}
use Rattle.kc_macros_model.proofs.laws.plain_trees_stay.Goals as goal

pub returns : goal.returns
returns c = record { tokens = lines_without_dollars; lines = plain_lines_stay; files = plain_files_stay; trees = plain_trees_stay }

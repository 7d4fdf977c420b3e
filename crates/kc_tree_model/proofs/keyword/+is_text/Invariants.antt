use Rattle.std.proofs.Common.{length}
use Rattle.kc_tree_model.proofs.keyword.+is_text.Given as goal

-- proposed from what the function passes where it calls itself
abbrev pub decreases-is_text : goal.decreases-is_text
decreases-is_text l = length l.keyword.now

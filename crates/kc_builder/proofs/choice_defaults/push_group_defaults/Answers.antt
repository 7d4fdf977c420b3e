use Rattle.std.proofs.Common.{rules}
use Rattle.kc_builder.proofs.choice_defaults.push_group_defaults.Goals as goal

pub returns-then-begins_choice : goal.returns-then-begins_choice
returns-then-begins_choice c = search rules

use Rattle.kc_evaluation.proofs.Common.{arith, common_steps, elements}
use Rattle.kc_evaluation.proofs.choices.shown_choice_rule.Goals as goal

pub is_member_visible-requires : goal.is_member_visible-requires
is_member_visible-requires c = grind (arith, common_steps)

pub is_shown-requires : goal.is_shown-requires
is_shown-requires c = record { fits = grind (arith, elements) }

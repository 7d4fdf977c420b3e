use Rattle.kc_rules_model.proofs.SelectedMembers.{two_lists, agree_without_n, first_unset}
use Rattle.kc_rules_model.proofs.laws.members_are_selected_by_lines.Goals as goal

pub returns-clause-lists : goal.returns-clause-lists
returns-clause-lists c = two_lists

pub returns-clause-agree : goal.returns-clause-agree
returns-clause-agree c = agree_without_n

pub returns-clause-first : goal.returns-clause-first
returns-clause-first c = first_unset

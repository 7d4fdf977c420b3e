use Rattle.kc_macros_model.proofs.ExpansionByRules.{expansion_keeps_the_rules}
use Rattle.kc_macros_model.proofs.RuleExpansions.{rules_are_expanded}
use Rattle.kc_macros_model.proofs.laws.expansion_follows_rules.Goals as goal

pub returns : goal.returns
returns c = record { only = expansion_keeps_the_rules; each = rules_are_expanded }

use Rattle.kc_rules_model.specs.checker.EqualityLaws.{users_decided}
use Rattle.kc_rules_model.proofs.laws.equality_is_decided.Goals as goal

-- src/laws.rt:43:1
pub returns-clause-users : goal.returns-clause-users
returns-clause-users c = users_decided

use Rattle.kc_rules_model.proofs.HiddenSymbols.{never_seen, never_written}
use Rattle.kc_rules_model.proofs.laws.environment_symbols_are_hidden.Goals as goal

pub returns-clause-unseen : goal.returns-clause-unseen
returns-clause-unseen c = never_seen

pub returns-clause-unwritten : goal.returns-clause-unwritten
returns-clause-unwritten c = never_written

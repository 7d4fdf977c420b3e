use Rattle.kc_rules_model.specs.checker.RestoreLaw.{rules_restore as law}
use Rattle.kc_rules_model.proofs.laws.rules_restore.Goals as goal

pub returns : goal.returns
returns c = law

use Rattle.kc_rules_model.specs.checker.FrameLaw.{rules_frame as law}
use Rattle.kc_rules_model.proofs.laws.rules_keep_the_frame.Goals as goal

pub returns : goal.returns
returns c = law

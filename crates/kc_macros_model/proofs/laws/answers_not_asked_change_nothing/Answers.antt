use Rattle.kc_macros_model.proofs.TreeAnswers.{answers_not_asked}
use Rattle.kc_macros_model.proofs.laws.answers_not_asked_change_nothing.Goals as goal

pub returns : goal.returns
returns c = answers_not_asked

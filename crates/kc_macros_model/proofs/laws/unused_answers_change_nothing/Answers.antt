use Rattle.kc_macros_model.proofs.UnusedAnswers.{unused_changes_nothing}
use Rattle.kc_macros_model.proofs.laws.unused_answers_change_nothing.Goals as goal

pub returns : goal.returns
returns c = unused_changes_nothing

use Rattle.std.proofs.lemmas.Result.{on_ok_weaker}
use Rattle.kc_dependencies.proofs.Pushes.{two_pushed}
use Rattle.kc_dependencies.proofs.names.DefaultMentionsNames.push_names.Goals as goal

pub returns-clause-names : goal.returns-clause-names
returns-clause-names c = λ p. on_ok_weaker c.push_names-2.result (λ e. two_pushed _ _ _ _ _ (c.in_ok-push_names.ensures.names p) e) (c.push_names-2.ensures.names p)

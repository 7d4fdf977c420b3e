use Rattle.kc_macros.proofs.Common.{ap, place_of}
use Rattle.kc_macros_model.specs.Expansion.{shell_value}
use Rattle.kc_macros.proofs.RunLemmas.{runs_out}
use Rattle.kc_macros.proofs.ExpansionLemmas.{returns_so}
use Rattle.kc_macros.proofs.names.shell_value.Goals as goal

pub returns-in_err-question-in-Some : goal.returns-in_err-question-in-Some
returns-in_err-question-in-Some c = runs_out _ _ _ _ _ c.from_residual.ensures.1

pub returns-in-None : goal.returns-in-None
returns-in-None c = returns_so c.args.run.now _ _ (ap (shell_value (place_of c.args.at)) c.in-None.is)

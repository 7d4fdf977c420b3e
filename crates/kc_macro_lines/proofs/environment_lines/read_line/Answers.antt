use Rattle.kc_macros.proofs.RunLemmas.{runs_out}
use Rattle.kc_macro_lines.proofs.environment_lines.read_line.Goals as goal

pub returns-in_err-line-in-Some : goal.returns-in_err-line-in-Some
returns-in_err-line-in-Some c = runs_out _ _ _ _ _ c.from_residual.ensures.1

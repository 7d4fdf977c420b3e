use Rattle.kc_expr.proofs.Languages.{strict_in_linux}
use Rattle.kc_expr.proofs.laws.linux_reads_strict_lines.Goals as goal

pub returns : goal.returns
returns c = λ version line ps h. strict_in_linux version 0 0 line ps h

use Rattle.kc_expr.proofs.Common.{length, arith, read_fault}
use Rattle.kc_expr.proofs.FaultLaws.{fault_read}
use Rattle.kc_expr.proofs.laws.token_faults_are_first_faults.Goals as goal

pub returns : goal.returns
returns c = λ language line fault. (read_fault language (length line) 0 line fault (omega arith), fault_read language 0 line fault)

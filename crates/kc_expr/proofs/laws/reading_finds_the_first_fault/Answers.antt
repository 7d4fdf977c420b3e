use Rattle.kc_expr.proofs.FirstFaults.{first_fault, fault_read}
use Rattle.kc_expr.proofs.laws.reading_finds_the_first_fault.Goals as goal

pub returns : goal.returns
returns c = λ ts f. (first_fault ts f, fault_read ts f)

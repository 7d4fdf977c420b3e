use Rattle.kc_expr.proofs.FaultLaws.{some_reading, no_two_readings, one_cut, one_fault}
use Rattle.kc_expr.proofs.laws.each_line_has_one_reading.Goals as goal

pub returns : goal.returns
returns c = record { some = some_reading; not_both = no_two_readings; tokens = one_cut; fault = one_fault }

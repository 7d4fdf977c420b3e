use Rattle.kc_rules.proofs.Common.{arith, common_steps}
use Rattle.kc_rules.proofs.reports.is_symbol_written.Goals as goal

pub reverse_limit-requires : goal.reverse_limit-requires
reverse_limit-requires c = grind (arith, common_steps)

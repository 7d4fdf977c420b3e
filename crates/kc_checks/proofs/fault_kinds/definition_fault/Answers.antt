use Rattle.std.proofs.Common.{rules}
use Rattle.kc_checks.proofs.fault_kinds.definition_fault.Goals as goal

pub returns-then-is_none : goal.returns-then-is_none
returns-then-is_none c = search rules

pub returns-else-is_first-2 : goal.returns-else-is_first-2
returns-else-is_first-2 c = search rules

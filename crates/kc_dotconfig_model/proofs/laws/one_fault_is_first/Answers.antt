use Rattle.kc_dotconfig_model.proofs.FirstFaults.{one_is_first}
use Rattle.kc_dotconfig_model.proofs.laws.one_fault_is_first.Goals as goal

pub returns : goal.returns
returns c = one_is_first

use Rattle.kc_dotconfig_model.proofs.FirstFaults.{failed_reads}
use Rattle.kc_dotconfig_model.proofs.laws.failed_reads_are_reported.Goals as goal

pub returns : goal.returns
returns c = failed_reads

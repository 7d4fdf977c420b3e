use Rattle.kc_macros_model.proofs.FailedReads.{failed_reads}
use Rattle.kc_macros_model.proofs.laws.failed_reads_change_nothing.Goals as goal

pub returns : goal.returns
returns c = failed_reads

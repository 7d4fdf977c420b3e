use Rattle.kmin_explain_records.proofs.RecordDepths.{read_back}
use Rattle.kmin_explain_records.proofs.records.records_are_read_back.Goals as goal

pub returns : goal.returns
returns c = read_back

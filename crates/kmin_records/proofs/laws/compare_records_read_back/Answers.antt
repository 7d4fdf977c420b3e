use Rattle.kmin_records.proofs.Lines.{differences_read_back}
use Rattle.kmin_records.proofs.laws.compare_records_read_back.Goals as goal

pub returns : goal.returns
returns c = differences_read_back

use Rattle.kmin_records.proofs.Lines.{files_read_back}
use Rattle.kmin_records.proofs.laws.tidy_records_read_back.Goals as goal

pub returns : goal.returns
returns c = files_read_back

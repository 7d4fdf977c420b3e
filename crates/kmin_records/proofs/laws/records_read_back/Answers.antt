use Rattle.kmin_records.proofs.Lines.{one_object}
use Rattle.kmin_records.proofs.laws.records_read_back.Goals as goal

pub returns : goal.returns
returns c = one_object

use Rattle.kc_reasons_model.proofs.laws.files_are_over_assignments.Goals as goal
use Rattle.kc_reasons_model.proofs.AssigningLaws.{files_over as law}

pub returns : goal.returns
returns c = law

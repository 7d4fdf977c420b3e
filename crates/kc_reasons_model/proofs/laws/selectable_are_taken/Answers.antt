use Rattle.kc_reasons_model.proofs.laws.selectable_are_taken.Goals as goal
use Rattle.kc_reasons_model.proofs.MemberLaws.{selectable_taken as law}

pub returns : goal.returns
returns c = law

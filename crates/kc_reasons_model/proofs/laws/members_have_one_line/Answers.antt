use Rattle.kc_reasons_model.proofs.laws.members_have_one_line.Goals as goal
use Rattle.kc_reasons_model.proofs.MemberLaws.{have_one_line as law}

pub returns : goal.returns
returns c = law

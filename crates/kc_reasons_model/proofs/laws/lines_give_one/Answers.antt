use Rattle.kc_reasons_model.proofs.laws.lines_give_one.Goals as goal
use Rattle.kc_reasons_model.proofs.MemberLaws.{give_one as law}

pub returns : goal.returns
returns c = law

use Rattle.kc_reasons_model.proofs.laws.lines_fit_units.Goals as goal
use Rattle.kc_reasons_model.proofs.FittingLines.{fit_units as law}

pub returns : goal.returns
returns c = law

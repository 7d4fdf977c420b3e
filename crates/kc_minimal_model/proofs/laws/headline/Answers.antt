use Rattle.kc_minimal_model.proofs.Headlines.{headline}
use Rattle.kc_minimal_model.proofs.laws.headline.Goals as goal

pub returns : goal.returns
returns c = headline

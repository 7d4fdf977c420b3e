use Rattle.kc_minimal_model.proofs.MinimalTexts.{minimal_texts}
use Rattle.kc_minimal_model.proofs.laws.minimal_texts_are_canonical.Goals as goal

pub returns : goal.returns
returns c = minimal_texts

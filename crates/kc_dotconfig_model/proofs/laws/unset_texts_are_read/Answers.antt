use Rattle.kc_dotconfig_model.proofs.UnsetTexts.{unset_texts_are_read as law}
use Rattle.kc_dotconfig_model.proofs.laws.unset_texts_are_read.Goals as goal

pub returns : goal.returns
returns c = law

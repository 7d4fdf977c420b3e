use Rattle.kc_dotconfig_model.proofs.Escapes.{escapes_are_noticed as law}
use Rattle.kc_dotconfig_model.proofs.laws.escapes_are_noticed.Goals as goal

pub returns : goal.returns
returns c = law

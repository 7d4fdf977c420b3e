use Rattle.kc_tree_model.proofs.HelpLines.{help_alike}
use Rattle.kc_tree_model.proofs.laws.help_begins_in_every_language.Goals as goal

pub returns : goal.returns
returns c = λ language text. help_alike text language

use Rattle.kc_checks.proofs.Common.{◌∙◌, RepresentsListing}
use Rattle.kc_checks.proofs.name_checks.symbol_number_of_name.Goals as goal

pub returns : goal.returns
unfolding RepresentsListing
returns c = λ read h. c.number_of.ensures ∙ h.names.numbered c.args.name.now

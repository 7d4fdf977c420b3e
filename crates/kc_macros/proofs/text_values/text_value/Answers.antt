use Rattle.kc_macros_model.specs.Expansion.{text_value}
use Rattle.kc_macros.proofs.text_values.text_value.Goals as goal

pub returns : goal.returns
unfolding text_value
returns c = c.expanded.ensures

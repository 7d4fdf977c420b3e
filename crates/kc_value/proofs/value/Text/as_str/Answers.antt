use Rattle.kc_value.proofs.Common.{◌∙◌, arith, elements}
use Rattle.kc_value.proofs.value.Text.as_str.Goals as goal

pub returns-clause-characters : goal.returns-clause-characters
returns-clause-characters c = c.as_str.ensures.value ∙ c.self.view_is

pub returns-clause-utf8 : goal.returns-clause-utf8
returns-clause-utf8 c = grind (arith, elements)

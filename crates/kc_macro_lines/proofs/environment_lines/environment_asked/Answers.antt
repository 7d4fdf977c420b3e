use Rattle.std.proofs.Common.{sym, ◌∙◌}
use Rattle.kc_macro_lines.proofs.EnvironmentLemmas.{none_without_sign}
use Rattle.kc_macro_lines.proofs.environment_lines.environment_asked.Goals as goal

pub returns-then-not-has_equals_sign : goal.returns-then-not-has_equals_sign
returns-then-not-has_equals_sign c = none_without_sign c.args.text.now (sym c.has_equals_sign.ensures ∙ c.if-not-has_equals_sign.true)

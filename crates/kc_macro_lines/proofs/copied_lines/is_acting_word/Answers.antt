use Rattle.std.proofs.Common.{◌∙◌, sym}
use Rattle.kc_macro_lines.proofs.NothingToExpandLemmas.{acts_not}
use Rattle.kc_macro_lines.proofs.copied_lines.is_acting_word.Goals as goal

pub returns-then-not-ends_acting : goal.returns-then-not-ends_acting
returns-then-not-ends_acting c = sym (acts_not c.args.word.now (sym c.ends_acting.ensures ∙ c.if-not-ends_acting.true))

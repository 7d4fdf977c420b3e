use Rattle.std.proofs.Common.{◌∙◌, sym, rules}
use Rattle.kc_expansion.proofs.LineStepLemmas.{usual_help, refused_stays}
use Rattle.kc_expansion.proofs.copied_lines.copied_line.Goals as goal

pub returns-then-eq : goal.returns-then-eq
returns-then-eq c = usual_help c.args.text.now (search rules)

pub returns-then-is_copied : goal.returns-then-is_copied
returns-then-is_copied c = record { written = (c.is_copied.ensures c.if-is_copied.true).written }

pub returns-then-is_refused : goal.returns-then-is_refused
returns-then-is_refused c = refused_stays c.args.text.now c.begins_help.result (sym c.is_refused.ensures ∙ c.if-is_refused.true) c.begins_help.ensures

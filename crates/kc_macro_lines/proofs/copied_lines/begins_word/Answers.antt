use Rattle.std.proofs.Common.{◌∙◌, length, sym}
use Rattle.kc_macro_lines.proofs.FrontLemmas.{none_of}
use Rattle.kc_macro_lines.proofs.CopiedLineLemmas.{no_word_after, nothing_after}
use Rattle.kc_macro_lines.proofs.copied_lines.begins_word.Goals as goal

pub returns-then-is_empty : goal.returns-then-is_empty
returns-then-is_empty c = λ e. nothing_after c.args.text.now c.without_white_front-rest.result.now c.without_white_front-rest.ensures
    (none_of (length c.without_white_front-rest.result.now) c.is_empty.result c.is_empty.ensures c.if-is_empty.true)

pub returns : goal.returns
returns c = λ e. no_word_after c.args.text.now c.without_white_front-rest.result.now c.without_white_front-rest.ensures (sym c.is_run_byte.ensures ∙ e)

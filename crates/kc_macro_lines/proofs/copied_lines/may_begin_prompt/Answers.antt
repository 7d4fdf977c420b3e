use Rattle.std.proofs.Common.{◌∙◌, ap, get_or}
use Rattle.kc_macro_lines.specs.checker.LinesWithoutMacros.{bounds_prompt}
use Rattle.kc_macro_lines.proofs.copied_lines.may_begin_prompt.Goals as goal

pub returns : goal.returns
returns c =
    c.bounds_prompt.ensures ∙ ap (λ first. bounds_prompt first c.last_byte.result) c.byte_at.ensures
    ∙ ap (λ last. bounds_prompt (get_or c.args.word.now 0 0) last) c.last_byte.ensures

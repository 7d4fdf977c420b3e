use Rattle.kc_expansion.proofs.Common.{ap, ◌∙◌, ◌++◌, codes}
use Rattle.kc_macros_model.specs.WrittenTokens.{escaped_text}
use Rattle.kc_expansion.proofs.WrittenFileLemmas.{source_line_is}
use Rattle.kc_expansion.proofs.source_lines.push_source_line.Goals as goal

pub returns : goal.returns
returns c =
    let b = c.args.bytes.now.items in
    let e = escaped_text 34 c.args.key.now in
    c.in_ok-extend_from_slice-2.ensures.items
    ∙ ap (λ xs. xs ++ codes "\"\n") (c.in_ok-push_escaped.ensures ∙ ap (λ xs. xs ++ e) c.in_ok-extend_from_slice.ensures.items)
    ∙ source_line_is b e

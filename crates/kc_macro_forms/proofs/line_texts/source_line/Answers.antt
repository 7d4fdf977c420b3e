use Rattle.std.proofs.Common.{◌∙◌, [], refl, sym}
use Rattle.std.specs.Prelude.{codes}
use Rattle.kc_macros_model.specs.declared.token_sort.TokenSort.TheVariants.{Word}
use Rattle.kc_macros_model.specs.WrittenTokens.{written_as}
use Rattle.kc_macro_forms.proofs.SignificantTokenLemmas.{source_same, source_other}
use Rattle.kc_macro_forms.proofs.line_texts.source_line.Goals as goal

pub returns-then-is_text : goal.returns-then-is_text
returns-then-is_text c =
    source_same c.args.tokens.now c.args.given.now c.args.key.now c.new-text.result.items c.push_with_first.new.out.items c.new-text.ensures.items
    (sym c.is_text.ensures ∙ c.if-is_text.true)
    (c.in_ok-push_with_first.ensures (written_as Word (codes "source") []) refl)

pub returns : goal.returns
returns c =
    source_other c.args.tokens.now c.args.given.now c.args.key.now c.new-text.result.items c.push_with_key.new.out.items c.new-text.ensures.items
    (sym c.is_text.ensures ∙ c.if-is_text.false) c.in_ok-push_with_key.ensures

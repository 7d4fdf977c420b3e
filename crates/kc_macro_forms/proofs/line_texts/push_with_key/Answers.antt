use Rattle.std.proofs.Common.{◌∙◌, [], refl, sym, ap, arith}
use Rattle.std.specs.Prelude.{codes}
use Rattle.kc_macros_model.specs.declared.token_sort.TokenSort.TheVariants.{Word}
use Rattle.kc_macros_model.specs.WrittenTokens.{WrittenToken, written_as}
use Rattle.kc_macros_model.specs.LineForms.{quoted_text_token}
use Rattle.kc_macro_forms.proofs.SignificantTokenLemmas.{both_missing, both_pushed}
use Rattle.kc_macro_forms.proofs.line_texts.push_with_key.Goals as goal

pub returns-then-place-tokens : goal.returns-then-place-tokens
returns-then-place-tokens c =
    both_missing c.args.tokens.now c.trivia_count-place.result c.trivia_count-place.ensures.value c.args.out.now.items c.push_tokens.new.out.items
    (written_as Word (codes "source") []) (quoted_text_token c.args.key.now) refl (omega arith) c.in_ok-push_tokens.ensures

pub returns : goal.returns
returns c =
    both_pushed c.args.tokens.now c.trivia_count-place.result c.trivia_count-place.ensures.value c.args.out.now.items c.push_tokens.new.out.items
    (written_as Word (codes "source") []) (quoted_text_token c.args.key.now) refl (codes "source") c.extend_from_slice.new.self.items
    c.push_with_first.new.out.items refl (omega arith) c.in_ok-push_tokens.ensures c.in_ok-extend_from_slice.ensures.items
    (c.in_ok-push_with_first.ensures (quoted_text_token c.args.key.now) (sym (ap (λ (t : WrittenToken). t.bytes) c.in_ok-path.ensures)
    ∙ sym c.as_slice.ensures))

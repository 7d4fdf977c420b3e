use Rattle.std.proofs.Common.{[], refl, arith}
use Rattle.kc_macros_model.specs.declared.token_sort.TokenSort.TheVariants.{Word}
use Rattle.kc_macros_model.specs.WrittenTokens.{written_as}
use Rattle.kc_macro_forms.proofs.SignificantTokenLemmas.{next_missing, next_pushed}
use Rattle.kc_macro_forms.proofs.line_texts.with_second.Goals as goal

pub returns-then-place-tokens : goal.returns-then-place-tokens
returns-then-place-tokens c =
    next_missing c.args.tokens.now c.trivia_count-place.result c.trivia_count-place.ensures.value c.new-text.result.items c.push_tokens.new.out.items
    (written_as Word c.args.bytes.now []) c.new-text.ensures.items (omega arith) c.in_ok-push_tokens.ensures

pub returns : goal.returns
returns c =
    next_pushed c.args.tokens.now c.trivia_count-place.result c.trivia_count-place.ensures.value c.new-text.result.items c.push_tokens-2.new.out.items
    (written_as Word c.args.bytes.now []) c.push_with_first.new.out.items c.new-text.ensures.items (omega arith) c.in_ok-push_tokens-2.ensures
    (c.in_ok-push_with_first.ensures (written_as Word c.args.bytes.now []) refl)

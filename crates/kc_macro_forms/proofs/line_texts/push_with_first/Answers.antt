use Rattle.std.proofs.Common.{arith}
use Rattle.kc_macro_forms.proofs.SignificantTokenLemmas.{first_missing, first_pushed}
use Rattle.kc_macro_forms.proofs.line_texts.push_with_first.Goals as goal

pub returns-then-place-tokens : goal.returns-then-place-tokens
returns-then-place-tokens c = λ new b. first_missing c.args.tokens.now c.trivia_count-place.result c.trivia_count-place.ensures.value c.args.out.now.items
    c.push_tokens.new.out.items new (omega arith) c.in_ok-push_tokens.ensures

pub returns : goal.returns
returns c =
    λ new b. first_pushed c.args.tokens.now c.trivia_count-place.result c.trivia_count-place.ensures.value c.args.out.now.items c.push_tokens.new.out.items new
    c.args.bytes.now c.extend_from_slice.new.self.items c.push_tokens-2.new.out.items b (omega arith) c.in_ok-push_tokens.ensures
    c.in_ok-extend_from_slice.ensures.items c.in_ok-push_tokens-2.ensures

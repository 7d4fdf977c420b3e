use Rattle.std.proofs.Common.{arith}
use Rattle.kc_macro_forms.proofs.SignificantTokenLemmas.{significant_none, significant_some}
use Rattle.kc_macro_forms.proofs.significant_tokens.next_significant.Goals as goal

pub returns-then-place-tokens-clause-none : goal.returns-then-place-tokens-clause-none
returns-then-place-tokens-clause-none c = significant_none c.args.tokens.now (omega (arith, c.trivia_count-place.ensures.value))

pub returns-clause-some : goal.returns-clause-some
returns-clause-some c = significant_some c.args.tokens.now c.trivia_count-place.result c.index-tokens-place.result c.trivia_count-place.ensures.value
    (omega arith) c.index-tokens-place.is

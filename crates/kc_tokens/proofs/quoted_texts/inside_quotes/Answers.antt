use Rattle.kc_tokens.proofs.Common.{arith, sym, ◌∙◌, IsCharBoundary-after_ascii}
use Rattle.kc_tokens.proofs.QuoteBytes.{quote_ascii}
use Rattle.kc_tokens.proofs.quoted_texts.inside_quotes.Goals as goal

pub range-requires-clause-start_boundary : goal.range-requires-clause-start_boundary
range-requires-clause-start_boundary c =
    let first = rw c.as_bytes-bytes.ensures.value at (sym c.is_quote.ensures ∙ c.if-is_quote.true) in
    λ l. IsCharBoundary-after_ascii c.args.text.now 0 c.utf8.text (omega (arith, c.as_bytes-bytes.ensures.len)) (quote_ascii _ first)

pub range-requires-clause-start_le_end : goal.range-requires-clause-start_le_end
range-requires-clause-start_le_end c = omega arith

pub overflow_sub-len-then-is_quote-2 : goal.overflow_sub-len-then-is_quote-2
overflow_sub-len-then-is_quote-2 c = omega arith

pub overflow_sub-len : goal.overflow_sub-len
overflow_sub-len c = omega arith

pub bounds-bytes-len : goal.bounds-bytes-len
bounds-bytes-len c = omega arith

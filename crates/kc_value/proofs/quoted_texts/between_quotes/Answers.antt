use Rattle.kc_value.proofs.Common.{sym, arith, common_steps, elements}
use Rattle.kc_value.proofs.QuotedLaws.{rest_of, not_closed, closed_early, body_between, cut_first}
use Rattle.kc_value.proofs.quoted_texts.between_quotes.Goals as goal

pub returns-in_err-n-clause-none : goal.returns-in_err-n-clause-none
returns-in_err-n-clause-none c =
    let rest = rest_of c.as_bytes-bytes.result.now c.args.text.now c.as_bytes-bytes.ensures.value in
    let none = rw rest at c.in_err-n.ensures.place in
    rw c.from_residual.ensures (λ means q. not_closed c.args.text.now means (sym none) q)

pub returns-then-n-bytes-clause-none : goal.returns-then-n-bytes-clause-none
returns-then-n-bytes-clause-none c =
    let rest = rest_of c.as_bytes-bytes.result.now c.args.text.now c.as_bytes-bytes.ensures.value in
    let place = rw rest at c.in_ok-n.ensures.place in
    λ means q. closed_early c.args.text.now means c.in_ok-n.n (sym place) (omega (arith, c.as_bytes-bytes.ensures.len)) q

pub range-requires-clause-start_boundary : goal.range-requires-clause-start_boundary
range-requires-clause-start_boundary c =
    let first = rw c.as_bytes-bytes.ensures.value at c.if-bytes-ne34.false in
    λ l. cut_first c.args.text.now c.utf8.text first

pub returns-clause-body : goal.returns-clause-body
returns-clause-body c =
    let rest = rest_of c.as_bytes-bytes.result.now c.args.text.now c.as_bytes-bytes.ensures.value in
    let place = rw rest at c.in_ok-n.ensures.place in
    let first = rw c.as_bytes-bytes.ensures.value at c.if-bytes-ne34.false in
    rw c.range.ensures.value (body_between c.args.text.now c.in_ok-n.n first (sym place) (omega (arith, c.as_bytes-bytes.ensures.len)))

pub slice_bounds-closing_quote-count : goal.slice_bounds-closing_quote-count
slice_bounds-closing_quote-count c = grind (arith, common_steps)

pub range-requires-clause-end_boundary : goal.range-requires-clause-end_boundary
range-requires-clause-end_boundary c = grind (arith, common_steps)

pub returns-then-is_empty-clause-body : goal.returns-then-is_empty-clause-body
returns-then-is_empty-clause-body c = omega arith

pub slice_bounds-closing_quote-start : goal.slice_bounds-closing_quote-start
slice_bounds-closing_quote-start c = grind (arith, elements)

pub bounds-bytes-0 : goal.bounds-bytes-0
bounds-bytes-0 c = grind (arith, common_steps)

pub overflow_add-n : goal.overflow_add-n
overflow_add-n c = grind (arith, common_steps)

pub returns-clause-none : goal.returns-clause-none
returns-clause-none c = omega arith

pub range-requires-clause-start_le_end : goal.range-requires-clause-start_le_end
range-requires-clause-start_le_end c = grind (arith, common_steps)

pub returns-then-n-bytes-clause-body : goal.returns-then-n-bytes-clause-body
returns-then-n-bytes-clause-body c = omega arith

pub returns-then-is_empty-clause-none : goal.returns-then-is_empty-clause-none
returns-then-is_empty-clause-none c = grind (arith, elements)

pub returns-in_err-n-clause-body : goal.returns-in_err-n-clause-body
returns-in_err-n-clause-body c = grind (arith, common_steps)

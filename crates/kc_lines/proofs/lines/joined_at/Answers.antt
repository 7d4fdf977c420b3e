use Rattle.std.proofs.Common.{sym, ◌∙◌, arith}
use Rattle.std.proofs.lemmas.Grind.{common_steps}
use Rattle.kc_lines.proofs.ContinuedLines.{joined_stops, joined_goes_on}
use Rattle.kc_lines.proofs.lines.joined_at.Goals as goal

pub returns-then-not-is_joined : goal.returns-then-not-is_joined
returns-then-not-is_joined c =
    record {
      line = rw c.in_ok-extend_from_slice.ensures.items (joined_stops c.args.bytes.now c.args.at c.loop-begin.begin c.loop-begin.text.items
          c.loop-begin.lines c.physical_at-line.result c.loop-begin.invariant c.loop-begin-test.true c.physical_at-line.ensures.line
          (sym c.is_joined.ensures.value ∙ c.if-not-is_joined.true));
    }

pub loop-begin-preserved : goal.loop-begin-preserved
loop-begin-preserved c =
    rw c.in_ok-extend_from_slice-2.ensures.items (joined_goes_on c.args.bytes.now c.args.at c.loop-begin.begin c.loop-begin.text.items c.loop-begin.lines
    c.physical_at-line.result c.loop-begin.invariant c.loop-begin-test.true c.physical_at-line.ensures.line
    (sym c.is_joined.ensures.value ∙ c.if-not-is_joined.false))

pub slice_bounds-extend_from_slice-end : goal.slice_bounds-extend_from_slice-end
slice_bounds-extend_from_slice-end c = grind (arith, common_steps)

pub overflow_sub-line : goal.overflow_sub-line
overflow_sub-line c = grind (arith, common_steps)

pub slice_bounds-extend_from_slice-end-in-loop-begin : goal.slice_bounds-extend_from_slice-end-in-loop-begin
slice_bounds-extend_from_slice-end-in-loop-begin c = omega arith

pub slice_bounds-extend_from_slice-start-in-loop-begin : goal.slice_bounds-extend_from_slice-start-in-loop-begin
slice_bounds-extend_from_slice-start-in-loop-begin c = grind (arith, common_steps)

pub slice_bounds-extend_from_slice-count : goal.slice_bounds-extend_from_slice-count
slice_bounds-extend_from_slice-count c = omega arith

pub slice_bounds-extend_from_slice-start : goal.slice_bounds-extend_from_slice-start
slice_bounds-extend_from_slice-start c = grind (arith, common_steps)

pub slice_bounds-extend_from_slice-count-in-loop-begin : goal.slice_bounds-extend_from_slice-count-in-loop-begin
slice_bounds-extend_from_slice-count-in-loop-begin c = grind (arith, common_steps)

pub loop-begin-smaller : goal.loop-begin-smaller
loop-begin-smaller c = grind (arith, common_steps)

pub returns : goal.returns
returns c = grind (arith, common_steps)

use Rattle.kc_value.proofs.Common.{◌+◌, get_or, drop, sym, ◌∙◌, arith, common_steps, drop_more, ne_eqb}
use Rattle.kc_value.proofs.ClosingSteps.{closing_escaped, closing_other}
use Rattle.kc_value.proofs.quoted_texts.closing_quote.Goals as goal
use Rattle.kc_value.proofs.quoted_texts.closing_quote.Goals.{then-escaped, else-escaped+else-byte-quote}

pub loop-i-preserved : goal.loop-i-preserved
loop-i-preserved c =
    let d = drop_more c.args.bytes.now c.loop-i.i 0 c.loop-i-test.true in
    let inv = rw d at c.loop-i.invariant in
    elim c.if-escaped.branch [
      | then-escaped w ↦ rw w.escaped-is (sym (closing_escaped c.loop-i.i c.args.quote (get_or c.args.bytes.now c.loop-i.i 0)
          (drop (c.loop-i.i + 1) c.args.bytes.now)) ∙ (rw w.if-escaped.true at inv))
      | else-escaped+else-byte-quote w ↦
          rw w.escaped-is (sym (closing_other c.loop-i.i c.args.quote (get_or c.args.bytes.now c.loop-i.i 0) (drop (c.loop-i.i + 1) c.args.bytes.now)
          (ne_eqb _ _ w.if-byte-quote.false)) ∙ (rw w.if-escaped.false at inv))
    ]

pub returns-then-byte-quote-clause-place : goal.returns-then-byte-quote-clause-place
returns-then-byte-quote-clause-place c = grind (arith, common_steps)

pub returns-clause-place : goal.returns-clause-place
returns-clause-place c = grind (arith, common_steps)

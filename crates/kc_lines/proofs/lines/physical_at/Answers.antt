use Rattle.std.proofs.Common.{arith}
use Rattle.kc_lines.proofs.CutSteps.{line_at_end, line_at_newline}
use Rattle.kc_lines.proofs.lines.physical_at.Goals as goal

pub returns-then-place-bytes : goal.returns-then-place-bytes
returns-then-place-bytes c =
    record {
      line = rw c.if-place-bytes.true (line_at_end c.args.bytes.now c.args.at c.requires.there
          (λ k from to. c.newline_from-place.ensures.none k from (omega (arith, c.if-place-bytes.true, to))));
    }

pub returns : goal.returns
returns c =
    record {
      line = rw c.text_end.ensures.value (line_at_newline c.args.bytes.now c.args.at c.newline_from-place.result c.newline_from-place.ensures
          (omega (arith, c.newline_from-place.ensures.within, c.if-place-bytes.false)));
    }

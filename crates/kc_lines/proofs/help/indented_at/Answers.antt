use Rattle.std.proofs.Common.{arith, sym, ◌∙◌}
use Rattle.kc_lines.proofs.HelpTextLines.{indented_more, indented_stops, indented_end}
use Rattle.kc_lines.proofs.help.indented_at.Goals as goal

pub returns-then-not-is_of_help : goal.returns-then-not-is_of_help
returns-then-not-is_of_help c =
    record {
      indented = indented_stops c.args.columns c.args.bytes.now c.args.at c.loop-begin.begin c.loop-begin.lines c.loop-begin.invariant
          c.physical_at-line.result c.physical_at-line.ensures.line (sym c.is_of_help.ensures.value ∙ c.if-not-is_of_help.true);
    }

pub loop-begin-preserved : goal.loop-begin-preserved
loop-begin-preserved c = indented_more c.args.columns c.args.bytes.now c.args.at c.loop-begin.begin c.loop-begin.lines c.loop-begin.invariant
    c.physical_at-line.result c.physical_at-line.ensures.line (sym c.is_of_help.ensures.value ∙ c.if-not-is_of_help.false)

pub returns : goal.returns
returns c = record {
  indented = indented_end c.args.columns c.args.bytes.now c.args.at c.loop-begin.begin c.loop-begin.lines c.loop-begin.invariant
      (omega arith);
}

use Rattle.kc_parser.proofs.Common.{◌+◌, true, sym, ◌∙◌, arith, common_steps}
use Rattle.kc_parser.proofs.ReaderSteps.{help_at_end, help_stops, indented_more, help_faulty}
use Rattle.kc_parser.proofs.reader.read_indented.Goals as goal

pub returns-then-not-is_of_help : goal.returns-then-not-is_of_help
returns-then-not-is_of_help c =
    record {
      read = help_stops c.args.file.number c.args.file.bytes.now c.args.at c.args.number c.args.columns c.help.begin c.help.lines c.help.invariant
          c.physical_at-line.result c.physical_at-line.ensures.line (sym c.is_of_help.ensures.value ∙ c.if-not-is_of_help.true);
    }

pub returns-in-Err : goal.returns-in-Err
returns-in-Err c = record {
  read =
      help_faulty c.args.file.number c.args.file.bytes.now c.args.at c.args.number c.args.columns c.help.begin c.help.lines c.help.invariant
      c.physical_at-line.result c.physical_at-line.ensures.line c.in-Err.kind c.at_line.result
      (sym c.is_of_help.ensures.value ∙ c.if-not-is_of_help.false) (λ language read. c.in-Err.ensures language read (c.args.number + c.help.lines) true)
      c.at_line.ensures;
}

pub help-preserved : goal.help-preserved
help-preserved c =
    indented_more c.args.file.number c.args.file.bytes.now c.args.at c.args.number c.args.columns c.help.begin c.help.lines c.help.invariant
    c.physical_at-line.result c.physical_at-line.ensures.line
    (sym c.is_of_help.ensures.value ∙ c.if-not-is_of_help.false) c.in_default.ensures.0 c.in_default.ensures.1

pub returns : goal.returns
returns c =
    record {
      read = help_at_end c.args.file.number c.args.file.bytes.now c.args.at c.args.number c.args.columns c.help.begin c.help.lines c.help.invariant
          c.help-test.false;
    }

pub overflow_add-number : goal.overflow_add-number
overflow_add-number c = grind (arith, common_steps)

pub help-init : goal.help-init
help-init c = grind (arith, common_steps)

pub overflow_add-lines : goal.overflow_add-lines
overflow_add-lines c = omega arith

pub help-smaller : goal.help-smaller
help-smaller c = omega arith

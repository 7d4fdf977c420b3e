use Rattle.std.proofs.Common.{sym, ◌∙◌}
use Rattle.kc_parser.proofs.ReaderSteps.{help_nothing, help_by}
use Rattle.kc_parser.proofs.reader.read_help.Goals as goal

pub returns-then-columns-eq0 : goal.returns-then-columns-eq0
returns-then-columns-eq0 c =
    record {
      read = help_nothing c.args.file.number c.args.file.bytes.now c.args.at c.args.number c.requires.within
          (sym c.first_columns-columns.ensures.value ∙ c.if-columns-eq0.true);
    }

pub returns : goal.returns
returns c =
    record {
      read = help_by c.args.file.number c.args.file.bytes.now c.args.at c.args.number c.first_columns-columns.result c.read_indented.result
          c.first_columns-columns.ensures.value c.if-columns-eq0.false c.read_indented.ensures.read;
    }

use Rattle.std.proofs.Common.{arith}
use Rattle.std.proofs.lemmas.Bool.Decides.{nat_tests}
use Rattle.kc_lines.proofs.HelpTextLines.{no_help, some_help}
use Rattle.kc_lines.proofs.help.help_at.Goals as goal

pub returns-then-columns-eq0 : goal.returns-then-columns-eq0
returns-then-columns-eq0 c =
    record {
      help = no_help c.args.bytes.now c.args.at c.first_columns-columns.result c.requires.within c.first_columns-columns.ensures.value c.if-columns-eq0.true;
    }

pub returns : goal.returns
returns c =
    record {
      help = some_help c.args.bytes.now c.args.at c.indented_at.result.next c.indented_at.result.lines c.first_columns-columns.result
          c.first_columns-columns.ensures.value (grind (arith, nat_tests)) c.indented_at.ensures.indented;
    }

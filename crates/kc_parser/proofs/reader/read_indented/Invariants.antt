use Rattle.kc_parser.proofs.Common.{length, ◌-◌, IsIndentedLeft}
use Rattle.kc_parser.proofs.reader.read_indented.Given as goal

abbrev pub invariant-help : goal.invariant-help
invariant-help l = IsIndentedLeft l.fn.file.number l.fn.file.bytes.now l.fn.at l.fn.number l.fn.columns l.begin l.lines

abbrev pub decreases-help : goal.decreases-help
decreases-help l = length l.fn.file.bytes.now - l.begin

use Rattle.std.proofs.Common.{◌≤◌}
use Rattle.kc_config_reasons.proofs.Common.{◌+◌, length, tree_of_settled, file_format}
use Rattle.kc_config_reasons.proofs.FileSteps.{Leads}
use Rattle.kc_config_reasons.proofs.file_reader.lines_of_file.Given as goal

abbrev pub invariant-loop-line : goal.invariant-loop-line
invariant-loop-line l = record {
  few : l.number + length l.rest ≤ length l.fn.bytes;
  leads : Leads (file_format l.format) (tree_of_settled l.settled) l.fn.bytes l.rest l.number l.found;
}

abbrev pub decreases-loop-line : goal.decreases-loop-line
decreases-loop-line l = length l.rest

use Rattle.std.proofs.Common.{◌*◌}
use Rattle.kc_parser.proofs.Common.{length, ◌-◌, ◌≤◌, ◌+◌, List, Group, read_file, IsLeft}
use Rattle.kc_parser.specs.checker.StateViews.{Describes, file_source_of}
use Rattle.kc_parser.proofs.reader.+files.Given as goal

abbrev pub decreases-read_statement : goal.decreases-read_statement
decreases-read_statement l = 3 * l.depth + 2

abbrev pub decreases-read_open_file : goal.decreases-read_open_file
decreases-read_open_file l = 3 * l.depth

abbrev pub decreases-read_sourced : goal.decreases-read_sourced
decreases-read_sourced l = 3 * l.depth + 1

abbrev pub invariant-read_open_file-lines : goal.invariant-read_open_file-lines
invariant-read_open_file-lines l = record {
  left : (before : List Group) → Describes (file_source_of l.fn.from) l.fn.read before
      → IsLeft (file_source_of l.fn.from) (read_file (l.fn.depth - 1) (file_source_of l.fn.from)) l.fn.file.number l.fn.file.bytes.now before l.read l.at
      l.number;
  within : l.at ≤ length l.fn.file.bytes.now;
  few : l.number ≤ l.at + 1;
}

abbrev pub decreases-read_open_file-lines : goal.decreases-read_open_file-lines
decreases-read_open_file-lines l = length l.fn.file.bytes.now - l.at

use Rattle.kc_parser.proofs.Common.{◌≡◌, ◌≤◌, count_by, take, is_file}
use Rattle.kc_parser.proofs.open_blocks.open_file_count.Given as goal

abbrev pub invariant-loop-o : goal.invariant-loop-o
invariant-loop-o l = record { counted : l.count ≡ count_by is_file (take l.o-index l.stack); few : l.count ≤ l.o-index }

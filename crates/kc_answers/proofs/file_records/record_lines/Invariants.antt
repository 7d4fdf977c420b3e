use Rattle.kc_answers.proofs.Common.{◌≡◌, ◌≤◌, length, take, MAX_ANSWER_LINES, split_at_newlines, first_line, recorded_from, end_of_file, bytes_of, lines_view}
use Rattle.kc_answers.proofs.file_records.record_lines.Given as goal

-- the lines of the file before `rest` are recorded in the table
abbrev pub invariant-loop-at : goal.invariant-loop-at
invariant-loop-at l = record {
  few : l.count ≤ MAX_ANSWER_LINES;
  same : recorded_from (end_of_file l.fn.cut) (first_line l.fn.table) (split_at_newlines l.fn.bytes)
      ≡ recorded_from (end_of_file l.fn.cut) (lines_view l.count (bytes_of l.waiting) l.table) (split_at_newlines l.rest);
  extends : take (length l.fn.table) l.table ≡ l.fn.table;
}

abbrev pub decreases-loop-at : goal.decreases-loop-at
decreases-loop-at l = length l.rest

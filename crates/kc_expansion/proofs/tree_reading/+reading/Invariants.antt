use Rattle.std.proofs.Common.{◌*◌}
use Rattle.kc_expansion.proofs.Common.{◌+◌, drop, length, ◌-◌, split_at_newlines, list_read, lines_read, place_of, items_of, Leads, state_of, file_run_of, reader_of, lists_left, lines_left, IsWrittenTo, text_up_to}
use Rattle.kc_expansion.proofs.tree_reading.+reading.Given as goal

abbrev pub decreases-read_source : goal.decreases-read_source
decreases-read_source g l = 8 * (33 - length l.opened.now.paths.now)

abbrev pub decreases-read_list : goal.decreases-read_list
decreases-read_list g l = 8 * (33 - length l.opened.now.paths.now)

abbrev pub decreases-list_lines : goal.decreases-list_lines
decreases-list_lines g l = 8 * (33 - length l.opened.now.paths.now) + 1

abbrev pub decreases-read_path : goal.decreases-read_path
decreases-read_path g l = 8 * (33 - length l.opened.now.paths.now) + 1

abbrev pub decreases-follow_source : goal.decreases-follow_source
decreases-follow_source g l = 8 * (33 - length l.opened.now.paths.now) + 2

abbrev pub decreases-next_line : goal.decreases-next_line
decreases-next_line g l = 8 * (33 - length l.opened.now.paths.now) + 4

abbrev pub decreases-read_lines : goal.decreases-read_lines
decreases-read_lines g l = 8 * (33 - length l.opened.now.paths.now) + 5

abbrev pub invariant-list_lines-paths : goal.invariant-list_lines-paths
invariant-list_lines-paths g l = Leads (file_run_of (g.F.TreeFiles.contents l.fn.files) l.fn.reading)
    (list_read (reader_of l.opened) (place_of l.at) (items_of l.paths) (state_of l.fn.reading)) (file_run_of (g.F.TreeFiles.contents l.files) l.reading)
    (lists_left (reader_of l.opened) (place_of l.at) l.text.items (items_of (drop l.path-index l.paths)) (state_of l.reading))

abbrev pub invariant-read_lines-lines : goal.invariant-read_lines-lines
invariant-read_lines-lines g l = record {
  written : IsWrittenTo l.bytes.value.items l.start l.out;
  leads : Leads (file_run_of (g.F.TreeFiles.contents l.fn.files) l.fn.reading)
      (lines_read (reader_of l.opened) l.file 0 1 (split_at_newlines l.bytes.value.items) (state_of l.fn.reading))
      (file_run_of (g.F.TreeFiles.contents l.files) l.reading) (lines_left (reader_of l.opened) l.file l.start (text_up_to l.out l.start.at)
      (split_at_newlines (drop l.start.at l.bytes.value.items)) (state_of l.reading));
}

abbrev pub decreases-read_lines-lines : goal.decreases-read_lines-lines
decreases-read_lines-lines g l = length l.bytes.value.items - l.start.at

-- The line of each report.
use Rattle.std.specs.Prelude.{List, Option, Some, None}
use Rattle.std.specs.Borrow.{Bor}
use Rattle.kc_tree_model.specs.TreeFiles.{Files}
use Rattle.kc_macros_model.specs.ReadingStates.{ExpandedFile}
use Rattle.kmin_report.specs.FileNames.{named_texts}
use Rattle.kmin_report.specs.declared.message.Message.{Message}
use Rattle.kmin_report.specs.declared.message.Message.TheVariants.{TreeFault, Cycle, FileFault, Notice, AnswersFault, MacroNotice, MacroFault, OutputFault, NotRegular, Unwritten, Left, OutOfMemory, RefusedWords}
use Rattle.kc_macros.specs.Runs.{fault_of, notice_of}
use Rattle.kmin_report.specs.Reports.{ErrorLine, tree_line, cycle_line, fault_line, tree_notice_line, answers_line, macro_notice_line, macro_fault_line, output_line, not_regular_line, write_line, left_line, memory_line, refused_line}

-- texts, each at its name in messages, where they may be those of expanded files
abbrev pub names_among : Files → Option (Bor (List ExpandedFile)) → Files
names_among texts None = texts
names_among texts (Some files) = named_texts files.now texts

-- the line of standard error for a report
abbrev pub report_line : Message → ErrorLine
report_line (TreeFault path line kind file texts first expanded) =
    tree_line path.now line kind (record { texts = texts.now; names = names_among texts.now expanded; first = first.now; file = file })
report_line (Cycle path line tree units) = cycle_line path.now line tree.now.tree units.now
report_line (FileFault path line kind) = fault_line path.now line kind
report_line (Notice path line kind tree) = tree_notice_line tree.now.tree path.now (line, kind)
report_line (AnswersFault path line kind) = answers_line path.now line kind
report_line (MacroNotice notice) = macro_notice_line (notice_of notice.now)
report_line (MacroFault fault missing) = macro_fault_line (fault_of fault.now)
report_line OutputFault = output_line
report_line (NotRegular path) = not_regular_line path.now
report_line (Unwritten path) = write_line path.now
report_line (Left path) = left_line path.now
report_line OutOfMemory = memory_line
report_line (RefusedWords message) = refused_line message.now

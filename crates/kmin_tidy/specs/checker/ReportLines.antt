-- The lines of each report.
use Rattle.std.specs.Prelude.{ℕ, List, [], ◌∷◌, ◌++◌, Option, Some, None, map, string_bytes}
use Rattle.kc_tree_model.specs.Trees.{Tree}
use Rattle.kc_dotconfig_model.specs.between.Notices.{notice_pair}
use Rattle.kmin_report.specs.Reports.{ErrorLine, fault_line, not_regular_line, write_line, left_line, memory_line}
use Rattle.kmin_tidy.specs.Reports.{notice_lines}
use Rattle.kmin_tidy.specs.declared.report.Problem.{Problem}
use Rattle.kmin_tidy.specs.declared.report.Problem.TheVariants.{Fault, NotRegular, Write}
use Rattle.kmin_tidy.specs.declared.report.FileReport.{FileReport}
use Rattle.kmin_tidy.specs.declared.stop.TidyStop.{TidyStop}
use Rattle.kmin_tidy.specs.declared.stop.TidyStop.TheVariants.{Memory, Left}

-- the line of standard error for a problem of a file
abbrev pub problem_line : (path : List ℕ) → Problem → ErrorLine
problem_line path (Fault fault) = fault_line path fault.line fault.kind
problem_line path NotRegular = not_regular_line path
problem_line path Write = write_line path

-- the lines of standard error for the problem of a file: one, or none if the file has no problem
abbrev pub problem_lines : (path : List ℕ) → Option Problem → List ErrorLine
problem_lines path None = []
problem_lines path (Some problem) = problem_line path problem ∷ []

-- the lines of standard error for a file's report over a tree: those of its notices, and then that of its problem
abbrev pub report_lines : Tree → (path : List ℕ) → FileReport → List ErrorLine
report_lines tree path report = notice_lines tree path (map notice_pair report.notices.items) ++ problem_lines path report.problem

-- the last line of standard error of a run that ends early for this reason
abbrev pub stop_line : TidyStop → ErrorLine
stop_line Memory = memory_line
stop_line (Left new_path) = left_line (string_bytes new_path)

-- The messages of lines of standard error, which have more than the line in its plain form.
use Rattle.std.specs.Prelude.{ℕ, List, [], ◌∷◌, ◌++◌, Option, Some, None, codes}
use Rattle.kc_tree_model.specs.FaultNames.{tree_kind_name}
use Rattle.kc_dotconfig_model.specs.KindNames.{load_kind_name, notice_kind_name}
use Rattle.kc_macros_model.specs.FaultNames.{macro_kind_name, macro_notice_name, answers_kind_name}
use Rattle.kmin_messages.specs.Messages.{Message, form_line}
use Rattle.kmin_messages.specs.declared.message.Form.{Form}
use Rattle.kmin_messages.specs.declared.message.Severity.{Severity}
use Rattle.kmin_messages.specs.declared.message.Severity.TheVariants.{Error, Warning}
use Rattle.kmin_report.specs.Reports.{ErrorLine, tree_line, cycle_line, fault_line, notice_line, answers_line, macro_notice_line, macro_fault_line, output_line, not_regular_line, write_line, left_line, memory_line, refused_line}

-- the name of the kind of a line; words that are refused have none
abbrev pub kind_of : ErrorLine → List ℕ
kind_of (tree_line path number kind read) = tree_kind_name kind
kind_of (cycle_line path number tree units) = codes "Cycle"
kind_of (fault_line path number kind) = load_kind_name kind
kind_of (notice_line path notice names) = notice_kind_name notice.1
kind_of (answers_line path number kind) = answers_kind_name kind
kind_of (macro_notice_line notice) = macro_notice_name notice.kind
kind_of (macro_fault_line fault) = macro_kind_name fault.kind
kind_of output_line = codes "Write"
kind_of (not_regular_line path) = codes "NotRegular"
kind_of (write_line path) = codes "Write"
kind_of (left_line new_path) = codes "Left"
kind_of memory_line = codes "OutOfMemory"
kind_of (refused_line message) = []

-- the severity of a line: notices are warnings
abbrev pub severity_of : ErrorLine → Severity
severity_of (notice_line path notice names) = Warning
severity_of (macro_notice_line notice) = Warning
severity_of line = Error

-- the path of a line's file, if it is of one; of a file of a tree it has the root in front, so that it opens
abbrev pub file_of : (root : List ℕ) → ErrorLine → Option (List ℕ)
file_of root (tree_line path number kind read) = Some (root ++ 47 ∷ path)
file_of root (cycle_line path number tree units) = Some (root ++ 47 ∷ path)
file_of root (fault_line path number kind) = Some path
file_of root (notice_line path notice names) = Some path
file_of root (answers_line path number kind) = Some path
file_of root (macro_notice_line notice) = Some (root ++ 47 ∷ notice.at.file)
file_of root (macro_fault_line fault) = Some (root ++ 47 ∷ fault.at.file)
file_of root output_line = None
file_of root (not_regular_line path) = Some path
file_of root (write_line path) = Some path
file_of root (left_line new_path) = Some new_path
file_of root memory_line = None
file_of root (refused_line message) = None

-- the number of the line in its file; 0 where it is of no line
abbrev pub number_of : ErrorLine → ℕ
number_of (tree_line path number kind read) = number
number_of (cycle_line path number tree units) = number
number_of (fault_line path number kind) = number
number_of (notice_line path notice names) = notice.0
number_of (answers_line path number kind) = number
number_of (macro_notice_line notice) = notice.at.line
number_of (macro_fault_line fault) = fault.at.line
number_of line = 0

-- the message of a line of standard error with this text and these names of symbols
abbrev pub message_of : (root : List ℕ) → ErrorLine → (text : List ℕ) → (names : List (List ℕ)) → Message
message_of root line text names = record {
  kind = kind_of line;
  severity = severity_of line;
  file = file_of root line;
  line = number_of line;
  text = text;
  names = names;
}

-- a line of standard error in another form than the plain one; words that are refused are in each form as they are
abbrev pub line_in : Form → (root : List ℕ) → ErrorLine → (text : List ℕ) → (names : List (List ℕ)) → List ℕ
line_in form root (refused_line message) text names = message
line_in form root line text names = form_line form (message_of root line text names)

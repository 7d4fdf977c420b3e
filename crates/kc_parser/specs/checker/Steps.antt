-- The results of the reader's functions.
use Rattle.std.specs.Prelude.{◌≡◌, ◌⊎◌, ℕ, ◌+◌, ◌<◌, ◌≤◌, Bool, true, false, List, length, drop, take_while, Option, Some, None, is_some, Result, Ok, Err, nat_lt, if◌then◌else◌}
use Rattle.std.specs.Str.{is_utf8}
use denote.Bor.{Bor}
use Rattle.kc_tokens.specs.declared.language.Language.{Language}
use Rattle.kc_value.specs.declared.limits.TheConstants.{MAX_LINE_BYTES}
use Rattle.kc_tree_model.specs.declared.fault.TreeFault.{TreeFault}
use Rattle.kc_tree_model.specs.declared.fault.TreeKind.{TreeKind}
use Rattle.kc_tree_model.specs.declared.fault.TreeKind.TheVariants.{OutOfMemory, MissingFile, TooDeep, TooMany}
use Rattle.kc_tree_model.specs.LogicalLines.{LogicalLine, logical_lines_from, physical_lines, begins_help, lines_of}
use Rattle.kc_tree_model.specs.Statements.{Statement, Head, Attribute}
use Rattle.kc_tree_model.specs.declared.statement.Head.TheVariants.{Source as source}
use Rattle.kc_tree_model.specs.declared.statement.Statement.TheVariants.{Head as head, Attribute as attribute}
use Rattle.kc_tree_model.specs.Blocks.{Group, of_head, file_end, innermost}
use Rattle.kc_tree_model.specs.declared.source_faults.SourceKinds.{SourceKinds}
use Rattle.kc_tree_model.specs.declared.source_faults.TheConstants.{TREE_KINDS}
use Rattle.kc_tree_model.specs.Limits.{FileSource, source_fault, bytes_in, is_too_deep, is_too_many}
use Rattle.kc_tree_model.specs.TreeReading.{Outcome, read_lines, read_file, statement_on_line, with_statement, with_group, with_attribute, path_to_read, at_file_end, continue_after_statement}
use Rattle.kc_parser.specs.between.ListingView.{RepresentsListing}
use Rattle.kc_lines.specs.between.LinePlaces.{is_of_help}
use Rattle.kc_parser.specs.checker.Faults.{IsMemory}
use Rattle.kc_parser.specs.checker.StateViews.{Describes, at_line}
use Rattle.kc_parser.specs.declared.state.ReaderState.{ReaderState}
use Rattle.kc_parser.specs.declared.state.SourceFile.{SourceFile}
use Rattle.kc_parser.specs.declared.state.Step.{Step}
use Rattle.kc_parser.specs.declared.state.Step.TheVariants.{Next, Help, Source}

-- the logical line with this number and text, which isn't a line of a help text
abbrev pub line_here : ℕ → List ℕ → LogicalLine
line_here number text = record { number = number; text = text; help = false }

-- the statement of a line, if it has one, isn't a `source` and was appended; `help` is whether a help text follows the line
pub record HasStatement (r : FileSource) (file line : ℕ) (text : List ℕ) (before : List Group) (help : Bool) (new : ReaderState) : Type 0 where
  pub statement : Option Statement
  pub gives : statement_on_line r.language before (line_here line text) ≡ Ok statement
  pub no_path : path_to_read statement ≡ None
  pub begins : begins_help text ≡ help
  pub describes : Describes r new (with_statement (at_line file line) statement before)

-- the statement of a line is a `source` of this path, which isn't appended yet
pub record IsSource (r : FileSource) (line : ℕ) (text path : List ℕ) (before : List Group) (new : ReaderState) : Type 0 where
  pub gives : statement_on_line r.language before (line_here line text) ≡ Ok (Some (head (source path)))
  pub begins : begins_help text ≡ false
  pub describes : Describes r new before

-- the step after a line with this text: its statement, if it has one, was appended, and the next line or a help text follows; or
-- its statement is a `source`, which isn't appended yet
abbrev pub IsStepRead : FileSource → ℕ → ℕ → List ℕ → List Group → ReaderState → Step → Type 0
IsStepRead r file line text before new Next = HasStatement r file line text before false new
IsStepRead r file line text before new Help = HasStatement r file line text before true new
IsStepRead r file line text before new (Source path) = IsSource r line text path before new

-- the result of a call that reads a logical line: the next step of the reader, or the fault of the line, or out of memory
abbrev pub ReturnsLineRead : FileSource → ℕ → ℕ → List ℕ → List Group → ReaderState → Result Step TreeKind → Type 0
ReturnsLineRead r file line text before new (Ok s) = IsStepRead r file line text before new s
ReturnsLineRead r file line text before new (Err k) =
    (k ≡ OutOfMemory) ⊎ ((statement_on_line r.language before (line_here line text) ≡ Err k) × RepresentsListing new.listing before)

-- the reading ended with this fault, which is the outcome's, and the listing represents the statements of the outcome; or memory
-- ran out
abbrev pub IsEnded : FileSource → Outcome → ReaderState → TreeFault → Type 0
IsEnded r o new f = IsMemory f ⊎ ((o.fault ≡ Some f) × RepresentsListing new.listing o.read)

-- the result of a call that reads the rest of a file, given the outcome in the model: all was read, or a fault ended the reading
abbrev pub ReturnsFileRead : FileSource → Outcome → ReaderState → Result (Unit {0}) TreeFault → Type 0
ReturnsFileRead r o new (Ok u) = (o.fault ≡ None) × Describes r new o.read
ReturnsFileRead r o new (Err f) = IsEnded r o new f

-- the result of reading a help text from a byte index on: the index after the text and its number of lines, which have no
-- statements; or the first fault of one of its lines, which ends the reading; or out of memory
abbrev pub ReturnsHelpRead : ℕ → List ℕ → ℕ → ℕ → ℕ → Result (ℕ × ℕ) TreeFault → Type 0
ReturnsHelpRead file bytes at number count (Ok p) =
    ((sub : List ℕ → List Group → Outcome) (r : FileSource) (read : List Group) → read_lines sub r file (logical_lines_from 0 count number (physical_lines (drop at bytes))) read ≡ read_lines sub r file (logical_lines_from 0 0 (number + p.1) (physical_lines (drop p.0 bytes))) read)
    × (at ≤ p.0) × (p.0 ≤ length bytes) × (at + p.1 ≤ p.0)
ReturnsHelpRead file bytes at number count (Err f) =
    IsMemory f ⊎ ((sub : List ℕ → List Group → Outcome) (r : FileSource) (read : List Group) → read_lines sub r file (logical_lines_from 0 count number (physical_lines (drop at bytes))) read ≡ record { read = read; fault = Some f })

-- the result of a call that appends a `source`: it was appended, and the `source`'s file or fault is returned; or memory ran out
abbrev pub AppendsSource : FileSource → ℕ → ℕ → List ℕ → List Group → ReaderState → Result SourceFile TreeFault → Type 0
AppendsSource r file line path before new (Ok o) =
    (source_fault r before path ≡ None) × (o.number ≡ r.number path) × (o.bytes.now ≡ bytes_in r path) × Describes r new (with_statement (at_line file line) (Some (head (source path))) before)
AppendsSource r file line path before new (Err f) =
    IsMemory f ⊎ ((k : TreeKind) × (source_fault r before path ≡ Some k) × (f ≡ record { file = Some file; line = line; kind = k }) × RepresentsListing new.listing (with_statement (at_line file line) (Some (head (source path))) before))

-- the result of a call that appends the end of a sourced file: it was appended, or memory ran out
abbrev pub IsAfter : FileSource → ℕ → ℕ → List Group → ReaderState → Result (Unit {0}) TreeFault → Type 0
IsAfter r file line before new (Ok u) = Describes r new (with_group (at_line file line) file_end before)
IsAfter r file line before new (Err f) = IsMemory f

-- the result at the end of a file: no fault, or the fault that a block is still open in the file
abbrev pub ReturnsEndRead : ℕ → List Group → Result (Unit {0}) TreeFault → Type 0
ReturnsEndRead file before (Ok u) = (at_file_end file before (innermost before)).fault ≡ None
ReturnsEndRead file before (Err f) = (at_file_end file before (innermost before)).fault ≡ Some f

-- the file of a `source` and its end were read, and the lines after the `source` are left to read
pub record IsSourceRead (r : FileSource) (sub : List ℕ → List Group → Outcome) (file line : ℕ) (path : List ℕ) (before : List Group) (new : ReaderState) : Type 0 where
  pub now : List Group
  pub describes : Describes r new now
  pub left : (rest : List Group → Outcome) → continue_after_statement sub rest r (at_line file line) before (Some (head (source path))) (Some path) ≡ rest now

-- a fault of a `source` or in its file ended the reading, and the listing represents what was read before the fault
pub record IsSourceEnded (r : FileSource) (sub : List ℕ → List Group → Outcome) (file line : ℕ) (path : List ℕ) (before : List Group) (new : ReaderState) (f : TreeFault) : Type 0 where
  pub outcome : Outcome
  pub is : (rest : List Group → Outcome) → continue_after_statement sub rest r (at_line file line) before (Some (head (source path))) (Some path) ≡ outcome
  pub fault_is : outcome.fault ≡ Some f
  pub shows : RepresentsListing new.listing outcome.read

-- the result of reading the file of a `source`: it and its end were read, or a fault ended the reading, or memory ran out
abbrev pub ReturnsSourceRead : FileSource → (List ℕ → List Group → Outcome) → ℕ → ℕ → List ℕ → List Group → ReaderState → Result (Unit {0}) TreeFault → Type 0
ReturnsSourceRead r sub file line path before new (Ok u) = IsSourceRead r sub file line path before new
ReturnsSourceRead r sub file line path before new (Err f) = IsMemory f ⊎ IsSourceEnded r sub file line path before new f

-- the outcome of reading the lines of a file from a byte index on; the last number is the line number of the first of them
abbrev pub left_from : (List ℕ → List Group → Outcome) → FileSource → ℕ → List ℕ → ℕ → ℕ → List Group → Outcome
left_from sub r file bytes at number read = read_lines sub r file (logical_lines_from 0 0 number (physical_lines (drop at bytes))) read

-- the logical line at byte `at` was read with its help text or sourced file, and the lines from byte `next` on are left to read
pub record IsOneRead (r : FileSource) (sub : List ℕ → List Group → Outcome) (file : ℕ) (bytes : List ℕ) (at number : ℕ) (before : List Group) (new : ReaderState) (next lines : ℕ) : Type 0 where
  pub now : List Group
  pub describes : Describes r new now
  pub left : left_from sub r file bytes at number before ≡ left_from sub r file bytes next (number + lines) now

-- the result of reading the logical line at a byte index: the index after what was read and its number of lines; or the fault
abbrev pub ReturnsOneRead : FileSource → (List ℕ → List Group → Outcome) → ℕ → List ℕ → ℕ → ℕ → List Group → ReaderState → Result (ℕ × ℕ) TreeFault → Type 0
ReturnsOneRead r sub file bytes at number before new (Ok p) = IsOneRead r sub file bytes at number before new p.0 p.1
ReturnsOneRead r sub file bytes at number before new (Err f) = IsEnded r (left_from sub r file bytes at number before) new f

-- the byte index `next` is after `at` and within the file, and `lines` is at most the number of bytes between them
pub record IsForward (bytes : List ℕ) (at next lines : ℕ) : Type 0 where
  pub forward : at < next
  pub within : next ≤ length bytes
  pub few : at + lines ≤ next

-- the lines of a file from byte `at` on are left to read, and the reader's state represents the statements before them
pub record IsLeft (r : FileSource) (sub : List ℕ → List Group → Outcome) (file : ℕ) (bytes : List ℕ) (before : List Group) (new : ReaderState) (at number : ℕ) : Type 0 where
  pub now : List Group
  pub describes : Describes r new now
  pub left : left_from sub r file bytes at number now ≡ read_lines sub r file (lines_of bytes) before

-- the result of a call that reads a file is right for each path of the model that has the file's number and bytes
abbrev pub ReturnsReadOfFile : FileSource → ℕ → SourceFile → List Group → ReaderState → Result (Unit {0}) TreeFault → Type 0
ReturnsReadOfFile r depth file before new result = (path : List ℕ) → file.number ≡ r.number path → file.bytes.now ≡ bytes_in r path
    → ReturnsFileRead r (read_file depth r path before) new result

-- the result of checking a logical line's bytes: its text, or its fault (too long or not UTF-8)
abbrev pub IsText : List ℕ → Result (Bor (List ℕ)) TreeKind → Type 0
IsText bytes (Ok t) = (nat_lt MAX_LINE_BYTES (length bytes) ≡ false) × (is_utf8 bytes ≡ true) × (t.now ≡ bytes)
IsText bytes (Err k) = (language : Language) (read : List Group) (number : ℕ) (help : Bool) → statement_on_line language read (record { number = number; text = bytes; help = help }) ≡ Err k

-- the number of lines from a byte index on that belong to a help text whose indentation is the first number
abbrev pub indented : ℕ → List ℕ → ℕ → ℕ
indented columns bytes at = length (take_while (is_of_help columns) (physical_lines (drop at bytes)))

-- of a help text with an indentation of `columns`, `lines` lines were read, from byte `at` up to byte `begin`, and the others are
-- left to read
pub record IsIndentedLeft (file : ℕ) (bytes : List ℕ) (at number columns begin lines : ℕ) : Type 0 where
  pub is : (sub : List ℕ → List Group → Outcome) (r : FileSource) (read : List Group) → read_lines sub r file (logical_lines_from 0 (indented columns bytes at) number (physical_lines (drop at bytes))) read ≡ read_lines sub r file (logical_lines_from 0 (indented columns bytes begin) (number + lines) (physical_lines (drop begin bytes))) read
  pub later : at ≤ begin
  pub within : begin ≤ length bytes
  pub few : at + lines ≤ begin

-- the result of finding the file of a `source` after the groups that were read: its number and bytes, or the fault of
-- the `source`, or out of memory
abbrev pub ReturnsSourceFile : FileSource → List ℕ → List Group → Result SourceFile TreeKind → Type 0
ReturnsSourceFile r path before (Ok o) = (source_fault r before path ≡ None) × (o.number ≡ r.number path) × (o.bytes.now ≡ bytes_in r path)
ReturnsSourceFile r path before (Err k) = (k ≡ OutOfMemory) ⊎ (source_fault r before path ≡ Some k)

-- how many bytes a file has that was found; 0 if none was found
abbrev pub found_size : Result SourceFile TreeKind → ℕ
found_size (Ok o) = length o.bytes.now
found_size (Err k) = 0

-- the kinds of faults of a `source`, where its file was found or not
abbrev pub kinds_for : Result SourceFile TreeKind → SourceKinds TreeKind
kinds_for (Ok o) = TREE_KINDS
kinds_for (Err k) = record TREE_KINDS { missing_file = k }

-- the result of finding the file of a path: its number and bytes, or the fault `MissingFile`, or out of memory
abbrev pub ReturnsFile : FileSource → List ℕ → Result SourceFile TreeKind → Type 0
ReturnsFile r path (Ok o) = (is_some (r.bytes path) ≡ true) × (o.number ≡ r.number path) × (o.bytes.now ≡ bytes_in r path)
ReturnsFile r path (Err k) = (k ≡ OutOfMemory) ⊎ ((k ≡ MissingFile) × (is_some (r.bytes path) ≡ false))

-- the fault of a statement that passes a limit after the groups that were read; None if it passes none
abbrev pub limits : List Group → Statement → Option TreeKind
limits read s = if is_too_deep read s then Some TooDeep else if is_too_many read s then Some TooMany else None

-- the result of a call that appends a statement other than an attribute: it was appended, or passes a limit, or memory ran out
abbrev pub AppendsHead : FileSource → ℕ → ℕ → List Group → Head → ReaderState → Result (Unit {0}) TreeKind → Type 0
AppendsHead r file line before h new (Ok u) = (limits before (head h) ≡ None) × Describes r new (with_group (at_line file line) (of_head h) before)
AppendsHead r file line before h new (Err k) = (k ≡ OutOfMemory) ⊎ ((limits before (head h) ≡ Some k) × RepresentsListing new.listing before)

-- the result of a call that appends an attribute to the newest group: it was appended, or passes a limit, or memory ran out
abbrev pub AppendsAttribute : FileSource → ℕ → List Group → Attribute → ReaderState → Result (Unit {0}) TreeKind → Type 0
AppendsAttribute r line before a new (Ok u) = (limits before (attribute a) ≡ None) × Describes r new (with_attribute line a before)
AppendsAttribute r line before a new (Err k) = (k ≡ OutOfMemory) ⊎ ((limits before (attribute a) ≡ Some k) × RepresentsListing new.listing before)

-- The code's reading of a tree, as one of `kc_macros_model`.
use Rattle.std.specs.Prelude.{◌≡◌, ℕ, suc, Bool, true, false, ◌+◌, ◌-◌, ◌<◌, ◌≤◌, List, [], ◌++◌, length, Vec, Option, Some, None}
use Rattle.std.specs.declared.alloc.Global.{Global}
use Rattle.kc_tree_model.specs.LogicalLines.{PhysicalLine}
use Rattle.kc_macros_model.specs.declared.fault.MacroKind.{MacroKind}
use Rattle.kc_macros_model.specs.declared.fault.MacroKind.TheVariants.{JoinedAssignment}
use Rattle.kc_value.specs.declared.limits.TheConstants.{MAX_FILES, MAX_TREE_BYTES, MAX_OPEN_FILES}
use Rattle.kc_macros_model.specs.Expansion.{fault}
use Rattle.kc_macros_model.specs.Variables.{Bindings}
use Rattle.kc_macros_model.specs.LineForms.{SourceSort, LineForm, sources}
use Rattle.kc_macros_model.specs.PathPatterns.{files_of_pattern}
use Rattle.kc_macros_model.specs.Programs.{Place, Fault, Program, returns, ◌>>=◌}
use Rattle.kc_macros_model.specs.ReadingStates.{ReadingState, Progress, progress, WrittenLine, written_line}
use Rattle.kc_macros_model.specs.TreeExpansion.{SourceReader, one_file, file_list, list_name, source_fault, source_followed, pattern_read, short_line, list_read, lines_read, source_read}
use Rattle.kc_macros.specs.declared.stop.Stop.{Stop}
use Rattle.kc_macros.specs.declared.stop.Stop.TheVariants as kinds
use Rattle.kc_macros.specs.declared.assignments.Assignment.{Assignment}
use Rattle.kc_macros.specs.between.AssignmentViews.{bindings_assigned}
use Rattle.kc_macros.specs.between.Variables.{bindings_of}
use Rattle.kc_macro_forms.specs.between.WrittenTokens.{tokens_of}
use Rattle.kc_macro_forms.specs.between.LineFormViews.{source_sort_of}
use Rattle.kc_files.specs.TextViews.{texts_of}
use Rattle.kc_files.specs.TreeContents.{TreeContents}
use Rattle.kc_files.specs.between.KnownFiles.{FileRead, whole, AreBytes}
use Rattle.kc_expansion.specs.between.Reads.{FileRun, file_run}
use Rattle.kc_files.specs.checker.FileViews.{known_of}
use Rattle.kc_macros.specs.between.SliceTexts.{texts_of_slices}
use Rattle.kc_expansion.specs.declared.read_counts.ReadCounts.{ReadCounts}
use Rattle.kc_expansion.specs.declared.line_steps.LineState.{LineState}
use Rattle.kc_expansion.specs.declared.line_steps.LineStep.{LineStep}
use Rattle.kc_expansion.specs.declared.line_steps.LineStep.TheVariants as steps
use Rattle.kc_expansion.specs.declared.open_files.OpenFiles.{OpenFiles}
use Rattle.kc_expansion.specs.declared.tree_expander.TreeExpander.{TreeExpander}
use Rattle.kc_expansion.specs.declared.written_file.WrittenFile.{WrittenFile}
use Rattle.kc_expansion.specs.declared.line_places.LineStart.{LineStart}

-- the fault of this kind at a line of a file, without a text
abbrev pub fault_at : Place → MacroKind → Fault
fault_at at kind = record { at = at; kind = kind; text = [] }

-- the state of a reading, with its variables and names of choices replaced by those that the code has
abbrev pub with_lines : LineState → ReadingState → ReadingState
with_lines l s = record s { bindings = bindings_of l.bindings; choices = l.choices }

-- the state of the code's reading of a tree, as a state of `kc_macros_model`
abbrev pub state_of : TreeExpander → ReadingState
state_of r = record { bindings = bindings_of r.lines.bindings; choices = r.lines.choices; expanded = r.expanded; files = r.counts.files; bytes = r.counts.bytes; listed = r.listed }

-- the run of the code's reading of a tree, with the files that the reading has read
abbrev pub file_run_of : TreeContents → TreeExpander → FileRun
file_run_of contents r = file_run contents (known_of r.store) r.lines.run

-- how the files of a `source` line are read while the files of these paths are open within each other
abbrev pub reader_for : (root : List ℕ) → List (List ℕ) → SourceReader
reader_for root open_files = source_read (suc MAX_OPEN_FILES - length open_files) root open_files

-- how the files of a `source` line are read while the code has these files open within each other
abbrev pub reader_of : OpenFiles → SourceReader
reader_of o = reader_for o.root.now (texts_of_slices o.paths.now)

-- a stop is the reason why the path of a `source` line isn't copied: the path isn't known, or memory ran out
abbrev pub IsNoPath : Option (List ℕ) → Stop → Type 0
IsNoPath path (kinds.Fault f) = ⊥
IsNoPath path kinds.Unanswered = path ≡ None
IsNoPath path kinds.OutOfMemory = Unit {0}

-- the form of a line isn't that of a `source` line
abbrev pub IsNoSource : LineForm → Type 0
IsNoSource (sources sort path) = ⊥
IsNoSource form = Unit {0}

-- the program that returns the bindings after an assignment on a line; it fails where the line is continued
abbrev pub assigned_or_fault : Place → (continued : Bool) → Bindings → Assignment → Program Bindings
assigned_or_fault at true b a = fault at JoinedAssignment []
assigned_or_fault at false b a = bindings_assigned at b a.name a.operator a.text

-- the program for the rest of a line after its first step: it returns the written line, or first reads the files of a `source`
-- line
abbrev pub step_left : SourceReader → Place → LineStep → ReadingState → Program WrittenLine
step_left sub at (steps.Written l) s = returns (written_line l.text.items l.begins_help s)
step_left sub at (steps.Sources l) s = source_followed sub at (tokens_of l.tokens.items) (source_sort_of l.sort) (Some l.given.items) s >>= short_line at false

-- the program that finds the files of a `source` line's pattern, and reads them
abbrev pub pattern_followed : SourceReader → Place → SourceSort → (path : List ℕ) → ReadingState → Program Progress
pattern_followed sub at sort path s = files_of_pattern at path s.listed >>= pattern_read sub at sort s

-- the program that reads the files of a `source` line: those of a list of paths, or where there is no list the one file of its
-- path
abbrev pub paths_left : SourceReader → Place → (path : List ℕ) → Option (Vec (Vec ℕ Global) Global) → ReadingState → Program Progress
paths_left sub at path None s = sub at (one_file path) s
paths_left sub at path (Some paths) s = sub at (file_list (list_name at) (texts_of paths)) s

-- a program, with a text before the text that it returns
abbrev pub after_text : List ℕ → Program Progress → Program Progress
after_text done p = p >>= λ rest. returns (progress (done ++ rest.text) rest.state)

-- the program that reads the remaining lines of a file, where `done` is the text of the lines before them
abbrev pub lines_left : SourceReader → (file : List ℕ) → LineStart → (done : List ℕ) → List PhysicalLine → ReadingState → Program Progress
lines_left sub file start done ls s = after_text done (lines_read sub file 0 start.number ls s)

-- the program that reads the remaining files of a list, where `done` is the text for the files before them
abbrev pub lists_left : SourceReader → Place → (done : List ℕ) → List (List ℕ) → ReadingState → Program Progress
lists_left sub at done paths s = after_text done (list_read sub at paths s)

-- the code's counts of files and bytes that were read are those of the state of a reading
pub record AreCounts (counts : ReadCounts) (s : ReadingState) : Type 0 where
  pub files : s.files ≡ counts.files
  pub bytes : s.bytes ≡ counts.bytes

-- a file was read with these bytes, and may be sourced where these files are open and these counts of files and bytes were read
pub record MayBeRead (open_files : List (List ℕ)) (counts : ReadCounts) (path : List ℕ) (read : FileRead) (bytes : List ℕ) : Type 0 where
  pub is_whole : read ≡ whole bytes
  pub no_fault : (s : ReadingState) → AreCounts counts s → source_fault open_files s path (Some bytes) ≡ None
  pub few_files : counts.files < MAX_FILES
  pub few_bytes : counts.bytes + length bytes ≤ MAX_TREE_BYTES
  pub few_open : length open_files < MAX_OPEN_FILES

-- a file that was read may not be sourced where these files are open, by a fault of this kind
pub record MayNotBeRead (open_files : List (List ℕ)) (counts : ReadCounts) (path : List ℕ) (read : FileRead) (kind : MacroKind) : Type 0 where
  pub is_fault : (s : ReadingState) → AreCounts counts s → (bytes : Option (List ℕ)) → AreBytes read bytes → source_fault open_files s path bytes ≡ Some kind

-- the text of a file with these bytes can be written on from the line that begins at `start`: nothing from there on was replaced
pub record IsWrittenTo (bytes : List ℕ) (start : LineStart) (out : WrittenFile) : Type 0 where
  pub original : out.original.value.items ≡ bytes
  pub copied : out.copied ≤ start.at
  pub within : start.at ≤ length bytes
  pub few : start.number ≤ start.at + 1

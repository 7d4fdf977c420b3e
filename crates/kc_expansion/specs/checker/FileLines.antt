-- The lines of a file that is read, one after another.
use Rattle.std.specs.Prelude.{◌≡◌, ℕ, ◌+◌, ◌<◌, ◌≤◌, List, length, drop, false, Some, Result}
use Rattle.std.specs.Cow.{cow_slice_items}
use Rattle.kc_tree_model.specs.LogicalLines.{split_at_newlines, physical_lines}
use Rattle.kc_macros_model.specs.Programs.{Program, ◌>>=◌}
use Rattle.kc_macros_model.specs.ReadingStates.{ReadingState, Progress, WrittenLine}
use Rattle.kc_macros_model.specs.TreeExpansion.{SourceReader, place, short_line, source_followed, line_written}
use Rattle.kc_macro_forms.specs.between.WrittenTokens.{tokens_of}
use Rattle.kc_macro_forms.specs.between.LineFormViews.{source_sort_of}
use Rattle.kc_macros.specs.declared.stop.Stop.{Stop}
use Rattle.kc_macros.specs.Runs.{place_of}
use Rattle.kc_lines.specs.between.LinePlaces.{IsLogicalAt}
use Rattle.kc_expansion.specs.between.Reads.{FileRun}
use Rattle.kc_expansion.specs.checker.LineViews.{is_first_continued}
use Rattle.kc_expansion.specs.checker.ProgramSteps.{Leads}
use Rattle.kc_expansion.specs.checker.StepResults.{StepsTo}
use Rattle.kc_expansion.specs.checker.ReadingViews.{lines_left, IsWrittenTo}
use Rattle.kc_expansion.specs.checker.WrittenViews.{text_up_to}
use Rattle.kc_expansion.specs.declared.file_lines.FileLine.{FileLine}
use Rattle.kc_expansion.specs.declared.file_lines.SourceHere.{SourceHere}
use Rattle.kc_expansion.specs.declared.file_lines.LineHere.{LineHere}
use Rattle.kc_expansion.specs.declared.file_lines.LineHere.TheVariants as kinds
use Rattle.kc_expansion.specs.declared.line_places.LineStart.{LineStart}
use Rattle.kc_expansion.specs.declared.written_file.WrittenFile.{WrittenFile}

-- the logical line that begins at `start` in a file has the bytes `line.text`, and ends just before `line.after`
pub record IsFileLine (bytes : List ℕ) (start : LineStart) (line : FileLine) : Type 0 where
  pub there : start.at < length bytes
  pub lines : ℕ
  pub logical : IsLogicalAt bytes start.at (cow_slice_items line.text) line.after.at lines
  pub number : line.after.number ≡ start.number + lines
  pub few : line.after.number ≤ line.after.at + 1

-- the program that writes the logical line that begins at `start` in a file, and has the bytes `text`
abbrev pub line_of_file : SourceReader → (file bytes : List ℕ) → LineStart → (text : List ℕ) → ReadingState → Program WrittenLine
line_of_file sub file bytes start text s = line_written sub (place file start.number) (is_first_continued (physical_lines (drop start.at bytes))) text s

-- the program that reads the lines of a file from `start` on, where those before it are written in `out`
abbrev pub lines_from : SourceReader → (file bytes : List ℕ) → LineStart → WrittenFile → ReadingState → Program Progress
lines_from sub file bytes start out s = lines_left sub file start (text_up_to out start.at) (split_at_newlines (drop start.at bytes)) s

-- the reading of the lines of a file from `start` on leads to that from `next` on
pub record PassesLine (a b : FileRun) (sub : SourceReader) (file bytes : List ℕ) (start : LineStart) (s : ReadingState) (before : WrittenFile)
    (t : ReadingState) (out : WrittenFile) (next : LineStart) : Type 0 where
  pub written : IsWrittenTo bytes next out
  pub forward : start.at < next.at
  pub leads : Leads a (lines_from sub file bytes start before s) b (lines_from sub file bytes next out t)

-- a line of a file was read: the reading of the lines from it on leads to that of the lines after it, or stops
abbrev pub LineRead : (a b : FileRun) → SourceReader → (file bytes : List ℕ) → LineStart → ReadingState → WrittenFile → ReadingState → WrittenFile
    → Result LineStart Stop → Type 0
LineRead a b sub file bytes start s before t out result =
    StepsTo a b (lines_from sub file bytes start before s) (PassesLine a b sub file bytes start s before t out) result

-- the files of a `source` line that begins at `start` have to be read first
pub record MeetsSource (a b : FileRun) (sub : SourceReader) (file bytes : List ℕ) (start : LineStart) (s : ReadingState) (before : WrittenFile)
    (t : ReadingState) (out : WrittenFile) (here : SourceHere) : Type 0 where
  pub same : before ≡ out
  pub written : IsWrittenTo bytes start out
  pub line : IsFileLine bytes start here.line
  pub leads : Leads a (line_of_file sub file bytes start (cow_slice_items here.line.text) s) b (source_followed sub (place_of here.at)
      (tokens_of here.source.tokens.items) (source_sort_of here.source.sort) (Some here.source.given.items) t >>= short_line (place_of here.at) false)

-- what became of a line of a file: the reading leads on from the next line, or the files of the line have to be read first
abbrev pub IsMet : (a b : FileRun) → SourceReader → (file bytes : List ℕ) → LineStart → ReadingState → WrittenFile → ReadingState → WrittenFile
    → LineHere → Type 0
IsMet a b sub file bytes start s before t out (kinds.Passed next) = PassesLine a b sub file bytes start s before t out next
IsMet a b sub file bytes start s before t out (kinds.Sources here) = MeetsSource a b sub file bytes start s before t out here

-- a line of a file was read, or its files have to be read first
abbrev pub LineMet : (a b : FileRun) → SourceReader → (file bytes : List ℕ) → LineStart → ReadingState → WrittenFile → ReadingState → WrittenFile
    → Result LineHere Stop → Type 0
LineMet a b sub file bytes start s before t out result =
    StepsTo a b (lines_from sub file bytes start before s) (IsMet a b sub file bytes start s before t out) result

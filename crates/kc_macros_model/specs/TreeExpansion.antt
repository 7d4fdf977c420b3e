-- The expansion of a tree: its lines in reading order, a sourced file at its `source` line.
use Rattle.std.specs.Prelude.{ℕ, zero, suc, ◌+◌, Bool, true, false, not, ◌&&◌, ◌||◌, ◌==◌, nat_lt, List, [], ◌∷◌, ◌++◌, length, take, drop, map, reverse, flat_map, Option, Some, None, bytes_eq, codes, decimal, if◌then◌else◌}
use Rattle.std.specs.List.{list_any}
use Rattle.std.specs.Str.{is_utf8}
use Rattle.kc_tree_model.specs.LogicalLines.{PhysicalLine, split_at_newlines, without_return, is_continued, joined_bytes, continuation_count, begins_help, help_line_count}
use Rattle.kc_tree_model.specs.Limits.{is_in_list}
use Rattle.kc_tree_model.specs.SourceFaults.{fault_of_source}
use Rattle.kc_macros_model.specs.declared.fault.MacroKind.{MacroKind}
use Rattle.kc_macros_model.specs.declared.source_kinds.TheConstants.{MACRO_KINDS}
use Rattle.kc_macros_model.specs.declared.fault.MacroKind.TheVariants.{JoinedAssignment, MissingFile, TooMany, LineTooLong}
use Rattle.kc_value.specs.declared.limits.TheConstants.{MAX_TEXT_BYTES, MAX_TREE_BYTES, MAX_OPEN_FILES}
use Rattle.kc_macros_model.specs.Programs.{Place, read_file, Program, returns, stops, does, ◌>>=◌}
use Rattle.kc_macros_model.specs.Variables.{Value}
use Rattle.kc_macros_model.specs.Expansion.{fault}
use Rattle.kc_macros_model.specs.LineTokens.{line_tokens}
use Rattle.kc_macros_model.specs.declared.token_sort.TokenSort.TheVariants.{Word}
use Rattle.kc_macros_model.specs.WrittenTokens.{WrittenToken, written_as, in_quotes_of}
use Rattle.kc_macros_model.specs.Assignments.{without_front, LineContent, assigns, tokens, line_content, variable_assigned}
use Rattle.kc_macros_model.specs.EnvironmentLines.{meant_line}
use Rattle.kc_macros_model.specs.LineForms.{SourceSort, LineForm, plain, bare_prompt, replaced_by, named_choice, sources, form_of, without_trivia, with_nth_token, with_replacement, line_bytes, quoted_text_token, is_help_line, is_undecided}
use Rattle.kc_macros_model.specs.PathPatterns.{is_pattern, FoundPaths, files_of_pattern, paths_with_files}
use Rattle.kc_macros_model.specs.ReadingStates.{ExpandedFile, ReadingState, initial_state, Progress, progress, WrittenLine, written_line, bound, with_choice, with_listed, counted, stored_file}

-- the place of a line: the path of its file and its number
abbrev pub place : List ℕ → ℕ → Place
place file line = record { file = file; line = line }

-- what a `source` line sources: a file, or a list of files under a name of its own
pub data SourceTarget : Type 0 where
  one_file : List ℕ → SourceTarget
  file_list : (name : List ℕ) → List (List ℕ) → SourceTarget

-- the path of what a `source` line sources; for a list of files it is the list's name
abbrev pub sourced_path : SourceTarget → List ℕ
sourced_path (one_file path) = path
sourced_path (file_list name paths) = name

-- a function that reads what a `source` line sources and returns the key of the expanded file, with the state after it
abbrev pub SourceReader : Type 0
SourceReader = Place → SourceTarget → ReadingState → Program Progress

-- the folder of a path, with its last slash; empty if the path has no slash
abbrev pub folder_of : List ℕ → List ℕ
folder_of path = reverse (without_front (λ c. not (c == 47)) (reverse path))

-- whether a path begins with a slash
abbrev pub begins_with_slash : List ℕ → Bool
begins_with_slash [] = false
begins_with_slash (c ∷ s) = c == 47

-- the path that a `source` line of `file` means: `given`, after the file's folder for a relative sort unless it begins with `/`
abbrev pub path_meant : SourceSort → (file given : List ℕ) → List ℕ
path_meant sort file given = if sort.relative && not (begins_with_slash given) then folder_of file ++ given else given

-- the name of the list of files of a `source` line: the path of the line's file, `:` and the line's number
abbrev pub list_name : Place → List ℕ
list_name at = at.file ++ 58 ∷ decimal at.line

-- the bytes of an expanded `source` line: its keyword is `source`, and its path the key of the expanded file
abbrev pub source_line : List WrittenToken → (given key : List ℕ) → List ℕ
source_line ts given key =
    let first = with_nth_token 0 (written_as Word (codes "source") []) ts in
    line_bytes (if bytes_eq key given then first else with_nth_token 1 (quoted_text_token key) first)

-- reads the list of the files that match a path pattern; no file is a fault, unless the `source` is optional
abbrev pub pattern_read : SourceReader → Place → SourceSort → ReadingState → FoundPaths → Program Progress
pattern_read sub at sort s f =
    elim (nat_lt 0 (length f.paths) || sort.optional) [ true ↦ sub at (file_list (list_name at) f.paths) (with_listed f.listed s) | false ↦ fault at MissingFile [] ]

-- reads what a `source` path means: the files of a path pattern, a file that may be missing, or a file that must be there
abbrev pub path_read : SourceReader → Place → SourceSort → List ℕ → ReadingState → Program Progress
path_read sub at sort path s =
    elim (is_pattern path) [
      | true ↦ files_of_pattern at path s.listed >>= pattern_read sub at sort s
      | false ↦ elim sort.optional [ true ↦ paths_with_files (path ∷ []) >>= λ paths. sub at (file_list (list_name at) paths) s | false ↦ sub at (one_file path) s ]
    ]

-- reads the files of a `source` line and returns the line with a key as its path; an unknown path stops the reading, and a line
-- whose path has a `[` stays
abbrev pub source_followed : SourceReader → Place → List WrittenToken → SourceSort → Value → ReadingState → Program Progress
source_followed sub at ts sort None s = stops
source_followed sub at ts sort (Some given) s =
    let path = path_meant sort at.file given in
    elim (list_any (λ c. c == 91) path) [ true ↦ returns (progress (line_bytes ts) s) | false ↦ path_read sub at sort path s >>= λ p. returns (progress (source_line ts given p.text) p.state) ]

-- the expanded line of a named choice: the first choice with a name loses the name, a later one keeps it
abbrev pub choice_written : List WrittenToken → List ℕ → ReadingState → Progress
choice_written ts name s =
    if is_in_list name s.choices then progress (line_bytes ts) s
    else progress (line_bytes (with_nth_token 1 (written_as Word [] []) ts)) (with_choice name s)

-- the expanded text of a line by its form, and the state after it; a `source` line has its files read
abbrev pub form_written : SourceReader → Place → List WrittenToken → LineForm → ReadingState → Program Progress
form_written sub at ts plain s = returns (progress (line_bytes ts) s)
form_written sub at ts (bare_prompt text) s = returns (progress (line_bytes (with_nth_token 1 (written_as Word (34 ∷ (text ++ 34 ∷ [])) []) ts)) s)
form_written sub at ts (replaced_by text) s = returns (progress (with_replacement text ts) s)
form_written sub at ts (named_choice name) s = returns (choice_written ts name s)
form_written sub at ts (sources sort path) s = source_followed sub at ts sort path s

-- an expanded line, or a fault where it has more than `MAX_TEXT_BYTES` bytes
abbrev pub short_line : Place → (begins_help : Bool) → Progress → Program WrittenLine
short_line at begins_help p = elim (nat_lt MAX_TEXT_BYTES (length p.text)) [ true ↦ fault at LineTooLong [] | false ↦ returns (written_line p.text begins_help p.state) ]

-- the expanded line of these written tokens, which are given twice: all, and without white, comments and empty ones; the reading
-- stops where the line's form isn't known
abbrev pub tokens_written : SourceReader → Place → ReadingState → List WrittenToken → List WrittenToken → Program WrittenLine
tokens_written sub at s ts real =
    elim (is_undecided real) [ true ↦ stops | false ↦ form_written sub at ts (form_of real) s >>= short_line at (is_help_line real) ]

-- the expanded line of a line's content; an assignment becomes an empty line, and is a fault on a continued line
abbrev pub content_written : SourceReader → Place → (continued : Bool) → ReadingState → LineContent → Program WrittenLine
content_written sub at continued s (tokens ts) = tokens_written sub at s ts (without_trivia ts)
content_written sub at true s (assigns name a) = fault at JoinedAssignment []
content_written sub at false s (assigns name a) = variable_assigned at s.bindings a.operator a.text (s.bindings name) >>= λ v. returns (written_line [] false (bound name v s))

-- the expanded line of a logical line; a line that is too long or isn't UTF-8 stays, for the reader to refuse, and `option env="X"`
-- is read as `option env "$(X)"`
abbrev pub line_written : SourceReader → Place → (continued : Bool) → List ℕ → ReadingState → Program WrittenLine
line_written sub at continued text s =
    elim (nat_lt MAX_TEXT_BYTES (length text) || not (is_utf8 text)) [ true ↦ returns (written_line text (begins_help text) s) | false ↦ line_content at s.bindings true (line_tokens 0 (meant_line text)) >>= content_written sub at continued s ]

-- the bytes of physical lines, one after the other, with their newlines
abbrev pub bytes_of_lines : List PhysicalLine → List ℕ
bytes_of_lines ls = flat_map (λ (l : PhysicalLine). if l.ended then l.text ++ 10 ∷ [] else l.text) ls

-- the newlines of physical lines, without the texts of the lines
abbrev pub newlines_of : List PhysicalLine → List ℕ
newlines_of ls = flat_map (λ (l : PhysicalLine). if l.ended then 10 ∷ [] else []) ls

-- the bytes of physical lines whose joined text becomes `new`: unchanged if it is `new` already, else `new` and their newlines
abbrev pub lines_written : List PhysicalLine → (text new : List ℕ) → List ℕ
lines_written ls text new = if bytes_eq new text then bytes_of_lines ls else new ++ newlines_of ls

-- how many of the physical lines after a logical line are its help text; 0 if no help text follows it
abbrev pub help_after : (begins_help : Bool) → List PhysicalLine → ℕ
help_after begins_help ls = if begins_help then help_line_count (map without_return ls) else 0

-- reads the lines of a file from line `n` on; the first `skip` physical lines belong to an earlier logical line
abbrev pub lines_read : SourceReader → (file : List ℕ) (skip n : ℕ) → List PhysicalLine → ReadingState → Program Progress
lines_read sub file skip n [] s = returns (progress [] s)
lines_read sub file (suc skip) n (l ∷ ls) s = lines_read sub file skip (n + 1) ls s
lines_read sub file zero n (l ∷ ls) s =
    let more = continuation_count (map without_return (l ∷ ls)) in
    let text = joined_bytes (map without_return (l ∷ ls)) in
    line_written sub (place file n) (is_continued (without_return l)) text s >>= λ line.
    let help = help_after line.begins_help (drop more ls) in
    lines_read sub file (more + help) (n + 1) ls line.state >>= λ rest.
    returns (progress (lines_written (l ∷ take more ls) text line.text ++ (bytes_of_lines (take help (drop more ls)) ++ rest.text)) rest.state)

-- reads the files of a list of files, and returns a text with a `source` line for the key of each file
abbrev pub list_read : SourceReader → Place → List (List ℕ) → ReadingState → Program Progress
list_read sub at [] s = returns (progress [] s)
list_read sub at (path ∷ paths) s =
    sub at (one_file path) s >>= λ p. list_read sub at paths p.state >>= λ rest. returns (progress (codes "source " ++ (in_quotes_of 34 p.text ++ 10 ∷ rest.text)) rest.state)

-- the fault, if any, of sourcing this path with these bytes (`None` if it can't be read) while `open_files` are open
abbrev pub source_fault : List (List ℕ) → ReadingState → List ℕ → Option (List ℕ) → Option MacroKind
source_fault open_files s path None = fault_of_source MACRO_KINDS (is_in_list path open_files) false (length open_files) s.files s.bytes
source_fault open_files s path (Some bytes) = fault_of_source MACRO_KINDS (is_in_list path open_files) true (length open_files) s.files (s.bytes + length bytes)

-- reads the lines of a sourced file with these bytes, or each file of a list of files, and counts the file or the list as one
-- file
abbrev pub contents_read : SourceReader → Place → SourceTarget → Option (List ℕ) → ReadingState → Program Progress
contents_read sub at (one_file path) None s = returns (progress [] s)
contents_read sub at (one_file path) (Some bytes) s = lines_read sub path 0 1 (split_at_newlines bytes) (counted (length bytes) s)
contents_read sub at (file_list name paths) bytes s = list_read sub at paths (counted 0 s)

-- reads a sourced file with these bytes, or a list of files, adds it to the expanded files and returns its key; fails if sourcing
-- it is a fault
abbrev pub sourced_read : SourceReader → (root : List ℕ) → List (List ℕ) → Place → SourceTarget → ReadingState → Option (List ℕ) → Program Progress
sourced_read sub root open_files at what s bytes =
    elim (source_fault open_files s (sourced_path what) bytes) [ Some kind ↦ fault at kind [] | None ↦ contents_read sub at what bytes s >>= λ p. returns (stored_file root (sourced_path what) p) ]

-- Reads what a `source` line sources, where at most this many files may still be opened within each other. At zero nothing is
-- read; the reading of a tree fails with `TooDeep` before that.
abbrev pub source_read : (more : ℕ) → (root : List ℕ) → List (List ℕ) → SourceReader
source_read zero root open_files at what s = returns (progress [] s)
source_read (suc more) root open_files at (one_file path) s = does (read_file path) (sourced_read (source_read more root (path ∷ open_files)) root open_files at (one_file path) s)
source_read (suc more) root open_files at (file_list name paths) s = sourced_read (source_read more root (name ∷ open_files)) root open_files at (file_list name paths) s (Some [])

-- reads the first file of a tree by its bytes, and returns all expanded files; the key of the first file is its path
abbrev pub root_read : (root : List ℕ) → ReadingState → Option (List ℕ) → Program (List ExpandedFile)
root_read root s None = fault (place root 0) MissingFile []
root_read root s (Some bytes) =
    elim (nat_lt MAX_TREE_BYTES (length bytes)) [
      | true ↦ fault (place root 0) TooMany []
      | false ↦ lines_read (source_read MAX_OPEN_FILES root (root ∷ [])) root 0 1 (split_at_newlines bytes) (counted (length bytes) s) >>= λ p. returns (p.state.expanded ++ record { key = root; path = root; text = p.text } ∷ [])
    ]

-- reads a tree by the path of its first file, and returns the expanded files, with the first file at the end
unfoldable pub tree_read : List ℕ → Program (List ExpandedFile)
tree_read root = does (read_file root) (root_read root initial_state)

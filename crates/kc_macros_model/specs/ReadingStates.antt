-- The state of a reading of a tree after some lines, and the keys of expanded files.
use Rattle.std.specs.Prelude.{ℕ, zero, suc, ◌+◌, Bool, true, false, not, ◌&&◌, ◌||◌, List, [], ◌∷◌, ◌++◌, length, bytes_eq, decimal, if◌then◌else◌}
use Rattle.std.specs.List.{list_any}
use Rattle.kc_macros_model.specs.Variables.{Variable, Bindings, with_variable, no_bindings}

-- an expanded file: its key, which expanded `source` lines have as their path; the path that was read for it; its expanded bytes
pub record ExpandedFile : Type 0 where
  pub key : List ℕ
  pub path : List ℕ
  pub text : List ℕ

-- the state of a reading: variables, names of choices, expanded files; counts of files and bytes read and of folder names listed
pub record ReadingState : Type 0 where
  pub bindings : Bindings
  pub choices : List (List ℕ)
  pub expanded : List ExpandedFile
  pub files : ℕ
  pub bytes : ℕ
  pub listed : ℕ

-- the state of a reading before the first line of the tree
abbrev pub initial_state : ReadingState
initial_state = record { bindings = no_bindings; choices = []; expanded = []; files = 0; bytes = 0; listed = 0 }

-- the result of a step of a reading: the text of expanded lines, or the key of an expanded file, and the state after it
pub record Progress : Type 0 where
  pub text : List ℕ
  pub state : ReadingState

-- the result of a step of a reading with this text and this state after it
abbrev pub progress : List ℕ → ReadingState → Progress
progress text s = record { text = text; state = s }

-- an expanded logical line, whether a help text follows it, and the state of the reading after it
pub record WrittenLine : Type 0 where
  pub text : List ℕ
  pub begins_help : Bool
  pub state : ReadingState

-- an expanded line with this text, with whether a help text follows it, and with this state of the reading after it
abbrev pub written_line : List ℕ → Bool → ReadingState → WrittenLine
written_line text begins_help s = record { text = text; begins_help = begins_help; state = s }

-- the state of a reading after the assignment of a variable to a name
abbrev pub bound : List ℕ → Variable → ReadingState → ReadingState
bound name v s = record s { bindings = with_variable name v s.bindings }

-- the state of a reading after the first choice with this name
abbrev pub with_choice : List ℕ → ReadingState → ReadingState
with_choice name s = record s { choices = name ∷ s.choices }

-- the state of a reading with this count of listed names in folders
abbrev pub with_listed : ℕ → ReadingState → ReadingState
with_listed listed s = record s { listed = listed }

-- the state of a reading after one more file or list of files is read, of this many bytes
abbrev pub counted : ℕ → ReadingState → ReadingState
counted n s = record s { files = s.files + 1; bytes = s.bytes + n }

-- whether one of these expanded files has this key
abbrev pub has_key : List (ExpandedFile) → List ℕ → Bool
has_key files key = list_any (λ (f : ExpandedFile). bytes_eq f.key key) files

-- whether a key can't be that of an expanded text: it is the path of the first file, or the key of a file with other bytes
abbrev pub is_taken : (root : List ℕ) → List ExpandedFile → (text key : List ℕ) → Bool
is_taken root files text key = bytes_eq key root || list_any (λ (f : ExpandedFile). bytes_eq f.key key && not (bytes_eq f.text text)) files

-- the first of `key`, `path#n`, `path#(n+1)` and so on that is neither the first file's path nor another text's key, where `n` is
-- the last argument; after `more` of them that are taken, the next one untested
abbrev pub free_key : (more : ℕ) (root : List ℕ) → List ExpandedFile → (path text key : List ℕ) → ℕ → List ℕ
free_key zero root files path text key n = key
free_key (suc more) root files path text key n = elim (is_taken root files text key) [ true ↦ free_key more root files path text (path ++ 35 ∷ decimal n) (n + 1) | false ↦ key ]

-- the key of the expanded text of a path: the first of the path and the path with `#2`, `#3` and so on that is neither the first
-- file's path nor another text's key
abbrev pub key_of : (root : List ℕ) → List ExpandedFile → (path text : List ℕ) → List ℕ
key_of root files path text = free_key (suc (length files)) root files path text path 2

-- the state of a reading with one more expanded file; unchanged if it has a file with this key already
abbrev pub with_expanded : (key path text : List ℕ) → ReadingState → ReadingState
with_expanded key path text s = record s { expanded = if has_key s.expanded key then s.expanded else s.expanded ++ record { key = key; path = path; text = text } ∷ [] }

-- the result of reading a sourced file: its key in place of its text, and the state with the file among the expanded files
abbrev pub stored_file : (root path : List ℕ) → Progress → Progress
stored_file root path p = let key = key_of root p.state.expanded path p.text in progress key (with_expanded key path p.text p.state)

-- The expanded files of the code, as those of `kc_macros_model`.
use Rattle.std.specs.Prelude.{◌≡◌, ℕ, Bool, true, false, List, [], ◌∷◌, ◌++◌, Vec, map, bytes_eq, if◌then◌else◌}
use Rattle.std.specs.List.{IsDistinct}
use Rattle.std.specs.declared.alloc.Global.{Global}
use Rattle.kc_macros_model.specs.ReadingStates.{ExpandedFile, has_key}
use Rattle.kc_files.specs.declared.expanded_files.FileOfKey.{FileOfKey}

-- the expanded file of an entry in the map of expanded files
abbrev pub expanded_file : Vec ℕ Global × FileOfKey → ExpandedFile
expanded_file e = record { key = e.0.items; path = e.1.path.items; text = e.1.text.value.items }

-- no two expanded files have the same key
abbrev pub HasDistinctKeys : List ExpandedFile → Type 0
HasDistinctKeys files = IsDistinct bytes_eq (map (λ (f : ExpandedFile). f.key) files)

-- the expanded files, with the file of this key, path and text at the end unless one of them has that key
abbrev pub with_file : (key path text : List ℕ) → List ExpandedFile → List ExpandedFile
with_file key path text files = if has_key files key then files else files ++ record { key = key; path = path; text = text } ∷ []

-- the expanded files after a text was pushed under its path as its key, or not pushed
abbrev pub IsPushed : (root path text : List ℕ) → List ExpandedFile → Bool → List ExpandedFile → Type 0
IsPushed root path text files true more = (bytes_eq path root ≡ false) × (has_key files path ≡ false) × (more ≡ with_file path path text files)
IsPushed root path text files false more = more ≡ files

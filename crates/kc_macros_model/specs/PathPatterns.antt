-- Patterns of paths: `*` and `?`, piece by piece between slashes.
use Rattle.std.specs.Prelude.{ℕ, ◌+◌, Bool, true, false, not, ◌&&◌, ◌||◌, ◌==◌, nat_lt, nat_le, List, [], ◌∷◌, ◌++◌, length, map, filter, Option, Some, None, slice_index, if◌then◌else◌}
use Rattle.std.specs.List.{list_any, onto_first}
use Rattle.std.specs.Str.{is_utf8}
use Rattle.kc_value.specs.Lines.{has_newline}
use Rattle.kc_macros_model.specs.declared.fault.MacroKind.TheVariants.{MissingFile, TooMany}
use Rattle.kc_value.specs.declared.limits.TheConstants.{MAX_LISTED_NAMES}
use Rattle.kc_macros_model.specs.Programs.{Place, find_file, list_folder, Program, returns, does, ◌>>=◌}
use Rattle.kc_macros_model.specs.Expansion.{fault}

-- whether a byte is `*` or `?`
abbrev pub is_wildcard : ℕ → Bool
is_wildcard c = c == 42 || (c == 63)

-- whether a path has a `*` or a `?`
abbrev pub is_pattern : List ℕ → Bool
is_pattern path = list_any is_wildcard path

-- whether some suffix of a text, all of it and the empty one among them, passes a test
abbrev pub some_end_matches : (List ℕ → Bool) → List ℕ → Bool
some_end_matches test [] = test []
some_end_matches test (c ∷ s) = test (c ∷ s) || some_end_matches test s

-- whether the first byte of a text is the given pattern byte, or any byte if that is `?`, and the rest of the text passes a test
abbrev pub first_byte_matches : ℕ → (List ℕ → Bool) → List ℕ → Bool
first_byte_matches c test [] = false
first_byte_matches c test (d ∷ s) = (c == d || (c == 63)) && test s

-- whether a file name matches a piece of a path pattern: `*` matches any bytes, `?` one byte
abbrev pub matches : List ℕ → List ℕ → Bool
matches [] name = nat_le (length name) 0
matches (c ∷ piece) name = elim (c == 42) [ true ↦ some_end_matches (matches piece) name | false ↦ first_byte_matches c (matches piece) name ]

-- whether a file name can be written in a line: it is UTF-8 and has no newline
abbrev pub is_writable_name : List ℕ → Bool
is_writable_name name = is_utf8 name && not (has_newline name)

-- whether a file name can be written in a line and matches a piece of a path pattern, which must begin with `.` if the name does
abbrev pub matches_name : List ℕ → List ℕ → Bool
matches_name piece name = is_writable_name name && (not (slice_index name 0 == 46 && not (slice_index piece 0 == 46)) && matches piece name)

-- the pieces of a path, which is cut at each slash
abbrev pub path_pieces : List ℕ → List (List ℕ)
path_pieces [] = [] ∷ []
path_pieces (c ∷ s) = if c == 47 then [] ∷ path_pieces s else onto_first c (path_pieces s)

-- whether a text comes before another in the order of their bytes, or is the same
abbrev pub is_in_order : List ℕ → List ℕ → Bool
is_in_order [] t = true
is_in_order (c ∷ s) [] = false
is_in_order (c ∷ s) (d ∷ t) = nat_lt c d || (c == d && is_in_order s t)

-- a list of texts in ascending order with one more text inserted at its place
abbrev pub inserted : List ℕ → List (List ℕ) → List (List ℕ)
inserted s [] = s ∷ []
inserted s (t ∷ ts) = if is_in_order s t then s ∷ t ∷ ts else t ∷ inserted s ts

-- a list of texts sorted in ascending order of their bytes
abbrev pub sorted : List (List ℕ) → List (List ℕ)
sorted [] = []
sorted (s ∷ ss) = inserted s (sorted ss)

-- the paths that were found for a path pattern, and how many names in folders were listed for the tree so far
pub record FoundPaths : Type 0 where
  pub paths : List (List ℕ)
  pub listed : ℕ

-- found paths with the count of names in folders listed so far
abbrev pub found : List (List ℕ) → ℕ → FoundPaths
found paths listed = record { paths = paths; listed = listed }

-- the names of a folder that match a piece of a path pattern, as paths; a fault if too many names are listed for the tree
abbrev pub matching_names : Place → (piece folder : List ℕ) → ℕ → List (List ℕ) → Program FoundPaths
matching_names at piece folder listed names =
    if nat_lt MAX_LISTED_NAMES (listed + length names) then fault at TooMany []
    else returns (found (map (λ name. folder ++ name) (filter (matches_name piece) names)) (listed + length names))

-- the paths of the names of a folder that match a piece of a path pattern; a fault if the folder is there and can't be listed
abbrev pub matching_listed : Place → (piece folder : List ℕ) → ℕ → Option (List (List ℕ)) → Program FoundPaths
matching_listed at piece folder listed None = fault at MissingFile []
matching_listed at piece folder listed (Some names) = matching_names at piece folder listed names

-- the paths that a pattern's piece matches in a folder (empty, or ending in `/`); a piece without wildcards matches itself
abbrev pub paths_in_folder : Place → (piece folder : List ℕ) → ℕ → Program FoundPaths
paths_in_folder at piece folder listed =
    elim (is_pattern piece) [ true ↦ does (list_folder folder) (matching_listed at piece folder listed) | false ↦ returns (found ((folder ++ piece) ∷ []) listed) ]

-- the paths that a piece of a path pattern matches in a list of folders, folder by folder
abbrev pub paths_in_folders : Place → List ℕ → List (List ℕ) → ℕ → Program FoundPaths
paths_in_folders at piece [] listed = returns (found [] listed)
paths_in_folders at piece (folder ∷ folders) listed =
    paths_in_folder at piece folder listed >>= λ first. paths_in_folders at piece folders first.listed >>= λ rest. returns (found (first.paths ++ rest.paths) rest.listed)

-- the paths below a list of folders that match the pieces of a path pattern, one level of folders for each piece
abbrev pub paths_below : Place → List (List ℕ) → List (List ℕ) → ℕ → Program FoundPaths
paths_below at [] folders listed = returns (found folders listed)
paths_below at (piece ∷ []) folders listed = paths_in_folders at piece folders listed
paths_below at (piece ∷ next ∷ pieces) folders listed =
    paths_in_folders at piece folders listed >>= λ f. paths_below at (next ∷ pieces) (map (λ path. path ++ 47 ∷ []) f.paths) f.listed

-- the paths of a list at which files are, in the same order; a file that is there and can't be read is among them, and fails where
-- it is read
abbrev pub paths_with_files : List (List ℕ) → Program (List (List ℕ))
paths_with_files [] = returns []
paths_with_files (path ∷ paths) = does (find_file path) (λ there. paths_with_files paths >>= λ rest. returns (if there then path ∷ rest else rest))

-- the paths that match a path pattern and at which files are, in ascending order
abbrev pub files_of_pattern : Place → List ℕ → ℕ → Program FoundPaths
files_of_pattern at pattern listed =
    paths_below at (path_pieces pattern) ([] ∷ []) listed >>= λ f. paths_with_files f.paths >>= λ paths. returns (found (sorted paths) f.listed)

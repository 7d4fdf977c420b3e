-- Words of a command line, of which each `@FILE` represents the words in a file.
use Rattle.std.specs.Prelude.{ℕ, Bool, ◌==◌, List, [], ◌∷◌, ◌++◌, Option, Some, None, bytes_eq, codes, map, if◌then◌else◌}
use Rattle.std.specs.List.{cons_option}
use Rattle.kmin_lines.specs.WordLines.{words_in}

-- the path of the file of a word `@FILE`; `None` for any other word
abbrev pub file_of : (word : List ℕ) → Option (List ℕ)
file_of [] = None
file_of (b ∷ path) = if b == 64 then Some path else None

-- whether a word is `--`, after which all words are plain
abbrev pub ends_options : (word : List ℕ) → Bool
ends_options word = bytes_eq word (codes "--")

-- the paths of the files of the words `@FILE` before a `--`, in order
abbrev pub files_of : (words : List (List ℕ)) → List (List ℕ)
files_of [] = []
files_of (word ∷ words) = if ends_options word then [] else cons_option (file_of word) (files_of words)

-- the first of several lists of words; none if there is no list
abbrev pub first_list : List (List (List ℕ)) → List (List ℕ)
first_list [] = []
first_list (list ∷ lists) = list

-- the further ones of several lists of words
abbrev pub further_lists : List (List (List ℕ)) → List (List (List ℕ))
further_lists [] = []
further_lists (list ∷ lists) = lists

-- the words that a word represents: those of the first list for `@FILE`, and else the word itself
abbrev pub words_for : (word : List ℕ) → (lists : List (List (List ℕ))) → List (List ℕ)
words_for word lists = elim (file_of word) [ None ↦ word ∷ [] | Some path ↦ first_list lists ]

-- the lists of words that are left after those that a word represents
abbrev pub lists_after : (word : List ℕ) → (lists : List (List (List ℕ))) → List (List (List ℕ))
lists_after word lists = elim (file_of word) [ None ↦ lists | Some path ↦ further_lists lists ]

-- words with a list of words in place of each `@FILE` before a `--`, in order
abbrev pub with_lists : (words : List (List ℕ)) → (lists : List (List (List ℕ))) → List (List ℕ)
with_lists [] lists = []
with_lists (word ∷ words) lists =
    if ends_options word then word ∷ words else words_for word lists ++ with_lists words (lists_after word lists)

-- words with the words in its file in place of each `@FILE` before a `--`, where these are the bytes of the files, in order
abbrev pub with_files : (words files : List (List ℕ)) → List (List ℕ)
with_files words files = with_lists words (map words_in files)

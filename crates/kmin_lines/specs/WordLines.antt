-- The words in the lines of files.
use Rattle.std.specs.Prelude.{ℕ, Bool, false, not, ◌==◌, List, [], ◌∷◌, filter}
use Rattle.std.specs.List.{list_all}
use Rattle.std.specs.Str.{is_utf8}
use Rattle.kmin_lines.specs.Lines.{lines_of}

-- whether a line is a word: it isn't empty, and doesn't begin with `#`
abbrev pub is_word_line : List ℕ → Bool
is_word_line [] = false
is_word_line (b ∷ line) = not (b == 35)

-- the words in a file: its lines, each without a carriage return at its end; empty lines and those that begin with `#` are passed over
abbrev pub words_in : (file : List ℕ) → List (List ℕ)
words_in file = filter is_word_line (lines_of file)

-- whether each word in these files is UTF-8
abbrev pub are_utf8 : (files : List (List ℕ)) → Bool
are_utf8 files = list_all (λ file. list_all is_utf8 (words_in file)) files

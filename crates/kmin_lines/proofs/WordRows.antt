-- Words of a command line and of files, worked out.
use Rattle.kmin_lines.proofs.Common.{◌≡◌, [], ◌∷◌, refl, words_in, files_of}
use Rattle.std.specs.Prelude.{codes}
use Rattle.kmin_lines.specs.WordFiles.{with_files}

-- a word a line, with its spaces; no empty line, no comment, and one carriage return less
lines_are_words : words_in (codes "--root\na b\r\n\n\r\n# c\n #d\ne\r\r\nf") ≡ codes "--root" ∷ codes "a b" ∷ codes " #d" ∷ codes "e\r" ∷ codes "f" ∷ []
lines_are_words = refl

-- a word that begins with `@` names a file, up to the first `--`
files_before_dashes : files_of (codes "min" ∷ codes "@a" ∷ codes "./@b" ∷ codes "@" ∷ codes "--" ∷ codes "@c" ∷ []) ≡ codes "a" ∷ [] ∷ []
files_before_dashes = refl

-- the words of each file are in its place, and name no further file
words_in_place : with_files (codes "@a" ∷ codes "c" ∷ codes "@b" ∷ codes "--" ∷ codes "@d" ∷ []) (codes "min\n--\n@x" ∷ codes "#" ∷ [])
    ≡ codes "min" ∷ codes "--" ∷ codes "@x" ∷ codes "c" ∷ codes "--" ∷ codes "@d" ∷ []
words_in_place = refl

-- no word is left of files without words
none_left : with_files (codes "@a" ∷ codes "@b" ∷ []) (codes "\n#x" ∷ [] ∷ []) ≡ []
none_left = refl

-- The lines of a text that another text lacks.
use Rattle.std.specs.Prelude.{ℕ, List, [], ◌∷◌, bytes_eq, nat_lt, if◌then◌else◌}
use Rattle.std.specs.List.{count_by}
use Rattle.kmin_lines.specs.Lines.{lines_of, left_over}

-- the lines of a text that the text `other` lacks, in their order: those that are left when each line of `other` takes away the first
-- line that equals it, so of several equal lines the last ones
abbrev pub lacking_lines : (text other : List ℕ) → List (List ℕ)
lacking_lines text other = left_over (lines_of text) (lines_of other)

-- how many lines of a list equal the line `line`
abbrev pub count_equal : (line : List ℕ) (lines : List (List ℕ)) → ℕ
count_equal line lines = count_by (λ other. bytes_eq line other) lines

-- of these lines, which come after the lines `before`, each that has at least as many equal lines before it as `others` has in all
abbrev pub surplus : (before lines others : List (List ℕ)) → List (List ℕ)
surplus before [] others = []
surplus before (line ∷ lines) others = if nat_lt (count_equal line before) (count_equal line others)
    then surplus (line ∷ before) lines others
    else line ∷ surplus (line ∷ before) lines others

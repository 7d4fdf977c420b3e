-- Where the newlines of a file are.
use Rattle.std.specs.Prelude.{ℕ, ◌-◌, ◌==◌, ◌&&◌, nat_lt, List, slice_index, if◌then◌else◌}
use Rattle.kc_value.specs.ByteSearch.{NonePasses, IsFirstFrom}

-- no byte from one place up to another is a newline
abbrev pub HasNoNewline : List ℕ → ℕ → ℕ → Type 0
HasNoNewline = NonePasses (λ c. c == 10)

-- the first newline from `at` on is at `place`; where there is none, `place` is the length of the bytes
abbrev pub IsNewlineFrom : List ℕ → ℕ → ℕ → Type 0
IsNewlineFrom = IsFirstFrom (λ c. c == 10)

-- where the text of a line ends that begins at `at` and has its newline at `place`: before a carriage return, if one is there
abbrev pub text_end : List ℕ → ℕ → ℕ → ℕ
text_end bytes at place = if nat_lt at place && (slice_index bytes (place - 1) == 13) then place - 1 else place

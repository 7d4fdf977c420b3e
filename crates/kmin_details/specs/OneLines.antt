-- Messages of one line.
use Rattle.std.specs.Prelude.{◌≡◌, ℕ, true, List, [], ◌∷◌, ◌++◌, Option, Some, None}
use Rattle.kmin_messages.specs.ShownTexts.{has_no_byte}

-- a line has a newline at its end and nowhere else
pub record IsOneLine (line : List ℕ) : Type 0 where
  pub text : List ℕ
  pub ended : line ≡ text ++ 10 ∷ []
  pub one_line : has_no_byte 10 text ≡ true

-- a path, if there is one, has no newline
abbrev pub HasNoNewline : Option (List ℕ) → Type 0
HasNoNewline None = Unit {0}
HasNoNewline (Some path) = has_no_byte 10 path ≡ true

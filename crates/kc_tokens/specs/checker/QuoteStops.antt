-- Where the plain text between two quotes ends.
use Rattle.std.specs.Prelude.{◌≡◌, ℕ, ◌<◌, Bool, ◌||◌, ◌==◌, List, length, slice_index}
use Rattle.kc_value.specs.ByteSearch.{NonePasses}

-- whether a byte is a quote that may close the text, a backslash or a `$`
abbrev pub is_quote_stop : ℕ → ℕ → Bool
is_quote_stop quote c = (c == quote || (c == 92)) || (c == 36)

-- bytes begin with a quote, and the byte at `place` is the next one like it, with neither a backslash nor a `$` before
pub record IsPlainQuoted (bytes : List ℕ) (place : ℕ) : Type 0 where
  pub some : 0 < place
  pub within : place < length bytes
  pub plain : NonePasses (is_quote_stop (slice_index bytes 0)) bytes 1 place
  pub closes : slice_index bytes place ≡ slice_index bytes 0

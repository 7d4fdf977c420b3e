-- The texts that quoted tokens mean.
use Rattle.std.specs.Prelude.{ℕ, ◌-◌, ◌&&◌, false, List, length, take, drop, slice_index, nat_le, if◌then◌else◌}
use Rattle.kc_value.specs.QuotedTexts.{unescaped}
use Rattle.kc_tokens.specs.Token.{is_quote}

-- the text between the quotes, or all of a text that isn't quoted
abbrev pub between_quotes : List ℕ → List ℕ
between_quotes text =
    if nat_le 2 (length text) && is_quote (slice_index text 0) && is_quote (slice_index text (length text - 1)) then take (length text - 2) (drop 1 text) else text

-- the text that a quoted token represents, without its quotes and escapes
abbrev pub quoted_text : List ℕ → List ℕ
quoted_text text = unescaped false (between_quotes text)

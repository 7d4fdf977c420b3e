-- The end of what bytes begin with.
use Rattle.std.specs.Prelude.{ℕ, ◌-◌, ◌<◌, ◌≤◌, List, length, slice_index}
use Rattle.kc_tokens.specs.declared.token.NextToken.{NextToken}
use Rattle.kc_tokens.specs.declared.token.NextToken.TheVariants.{White, Comment, Token, Fault}

-- what bytes begin with lies within them: a token has at least one byte and ends after an ASCII byte, white space is an ASCII
-- byte, a fault is at one of the bytes
abbrev pub Reaches : List ℕ → NextToken → Type 0
Reaches bytes White = slice_index bytes 0 < 128
Reaches bytes Comment = Unit {0}
Reaches bytes (Token kind len) = (0 < len) × (len ≤ length bytes) × (slice_index bytes (len - 1) < 128)
Reaches bytes (Fault kind ahead) = ahead < length bytes

use Rattle.kc_macro_lines.proofs.Common.{◌≡◌, length, line_tokens, solid_tokens}
use Rattle.kc_macro_lines.proofs.environment_lines.next_solid.Given as goal

-- the tokens of the whole text without trivia are those of `rest`
abbrev pub invariant-tokens : goal.invariant-tokens
invariant-tokens l = solid_tokens (line_tokens 0 l.fn.text) ≡ solid_tokens (line_tokens 0 l.rest)

abbrev pub decreases-tokens : goal.decreases-tokens
decreases-tokens l = length l.rest

use Rattle.kc_macro_lines.proofs.Common.{true, length, line_tokens, line_content, place_of, bindings_of, Leads}
use Rattle.kc_macro_lines.specs.checker.LineFronts.{front_left}
use Rattle.kc_macro_lines.proofs.line_content.read_tokens.Given as goal

-- the content of the whole line is that of its written tokens followed by the tokens of `rest`
abbrev pub invariant-tokens : goal.invariant-tokens
invariant-tokens l = Leads l.fn.run (line_content (place_of l.scope.at) (bindings_of l.scope.bindings.now) true (line_tokens 0 l.fn.text)) l.run
    (front_left (place_of l.scope.at) (bindings_of l.scope.bindings.now) l.front (line_tokens 0 l.rest))

abbrev pub decreases-tokens : goal.decreases-tokens
decreases-tokens l = length l.rest

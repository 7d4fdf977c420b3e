use Rattle.kc_macro_lines.proofs.Common.{◌≡◌, length, list_any, items, is_unterminated}
use Rattle.kc_macro_lines.proofs.line_tokens.has_unterminated.Given as goal

-- no `$(` of the text before `rest` is without its `)`
abbrev pub invariant-items : goal.invariant-items
invariant-items l = list_any is_unterminated (items l.in_quotes 0 l.text) ≡ list_any is_unterminated (items l.in_quotes 0 l.rest)

abbrev pub decreases-items : goal.decreases-items
decreases-items l = length l.rest

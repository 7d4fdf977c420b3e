use Rattle.kc_macro_lines.proofs.Common.{true, length, items, written_items, place_of, bindings_of, quoted_text_view, quoted_text_left, Leads}
use Rattle.kc_macro_lines.proofs.quoted_tokens.written_quoted_text.Given as goal

-- the quoted text of the whole text is the bytes written so far followed by the items of `rest`
abbrev pub invariant-items : goal.invariant-items
invariant-items l = Leads l.fn.run (written_items (place_of l.scope.at) (bindings_of l.scope.bindings.now) l.quote (items true 0 l.fn.text)) l.run
    (quoted_text_left (place_of l.scope.at) (bindings_of l.scope.bindings.now) l.quote (quoted_text_view l.out) (items true 0 l.rest))

abbrev pub decreases-items : goal.decreases-items
decreases-items l = length l.rest

use Rattle.kmin_explain_records.proofs.Common.{ℕ, List, map, ap, ◌∙◌, json_tokens, symbol_view, valuation_tree, valuation_exprs, valuation_values, position_view, symbol_lines_view, wrote, and_last, array_of, as_tokens, as_last, as_end, forcing_list}
use Rattle.kc_symbol_lines.specs.declared.located.Position.{Position}
use Rattle.kmin_explain_records.proofs.record_members.write_forcing_members.Goals as goal

pub returns : goal.returns
returns c =
    let strings = c.args.by.now.strings in
    let paths = c.args.by.now.paths.now in
    let tree = valuation_tree c.args.by.now.under.now in
    let values = valuation_values c.args.by.now.under.now in
    let symbol = symbol_view (valuation_exprs c.args.by.now.under.now) c.args.symbol.now in
    let lines = symbol_lines_view (valuation_exprs c.args.by.now.under.now) c.args.lines.now in
    and_last _ _ _ _ _ _ (wrote _ _ _ _ c.in_ok-key.ensures)
    (and_last _ _ _ _ _ _
    (as_tokens _ _ _ _
    (ap (λ (ps : List Position). json_tokens (array_of (forcing_list strings paths tree values symbol.selectors (map position_view ps) c.deref-2.result.now))) c.deref.ensures.value
    ∙ ap (λ (ns : List ℕ). json_tokens (array_of (forcing_list strings paths tree values symbol.selectors lines.selectors ns))) c.deref-2.ensures.value)
    c.in_ok-write_forcing_list.ensures)
    (and_last _ _ _ _ _ _ (wrote _ _ _ _ c.in_ok-key-2.ensures)
    (as_end c.write_forcing_list-2.result _ _ _
    (as_last c.write_forcing_list-2.result _ _ _ _
    (ap (λ (ps : List Position). json_tokens (array_of (forcing_list strings paths tree values symbol.impliers (map position_view ps) c.deref-4.result.now))) c.deref-3.ensures.value
    ∙ ap (λ (ns : List ℕ). json_tokens (array_of (forcing_list strings paths tree values symbol.impliers lines.impliers ns))) c.deref-4.ensures.value)
    c.write_forcing_list-2.ensures))))

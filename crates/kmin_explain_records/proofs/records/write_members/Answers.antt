use Rattle.kmin_explain_records.proofs.Common.{option_map, symbol_view, valuation_tree, valuation_exprs, valuation_values, reasons_view, position_view, symbol_lines_view, places_view, sources_model, given_members, asked_members, lacking_members, forcing_members}
use Rattle.kmin_explain_records.proofs.JoinedMembers.{four_parts}
use Rattle.kmin_explain_records.proofs.records.write_members.Goals as goal

pub returns : goal.returns
returns c = λ read meanings are.
    let strings = c.args.by.now.strings in
    let paths = c.args.by.now.tree_paths.now in
    let tree = valuation_tree c.args.under.now in
    let values = valuation_values c.args.under.now in
    let exprs = valuation_exprs c.args.under.now in
    let symbol = c.args.symbol.now in
    let view = symbol_view exprs symbol in
    let found = c.args.found.now in
    let s = found.symbol.s in
    let reasons = found.reasons in
    let places = found.places in
    four_parts c.write_forcing_members.result _ _ _ _ _
    (given_members strings paths tree values s (record { file = symbol.file; line = symbol.line }) reasons.chosen reasons.case (option_map position_view places.given_at))
    (asked_members (sources_model c.args.by.now read meanings) s found.symbol.kind reasons.case reasons.hindrance)
    (lacking_members strings paths tree values view reasons.hindrance (places_view exprs places))
    (forcing_members strings paths tree values view (symbol_lines_view exprs found.lines) (reasons_view exprs reasons))
    c.in_ok-write_given.ensures (c.in_ok-write_asked_members.ensures read meanings are) c.in_ok-write_lacking.ensures c.write_forcing_members.ensures

use Rattle.kmin_explain_records.proofs.Common.{[], ◌∷◌, codes, option_map, string, valuation_tree, valuation_values, value_of_symbol, name_of_symbol, value_text, position_view, wrote, and_then, and_last, text_json, place_if, last_write, as_last}
use Rattle.kmin_records.proofs.JsonLists.{object_in_parts}
use Rattle.kmin_explain_records.proofs.forcing_members.write_forcing.Goals as goal

pub returns : goal.returns
returns c =
    let tree = valuation_tree c.args.by.now.under.now in
    let values = valuation_values c.args.by.now.under.now in
    let s = c.args.force.by in
    as_last c.end_object.result _ _ _ _
    (object_in_parts ((codes "name", string (name_of_symbol tree s)) ∷ (codes "value", text_json (value_text c.args.by.now.strings (value_of_symbol tree values s))) ∷ [])
    (place_if c.args.by.now.paths.now (option_map position_view c.args.at)))
    (and_last _ _ _ _ _ _
    (and_then _ _ _ _ _ (wrote _ _ _ _ c.in_ok-begin_object.ensures) (and_then _ _ _ _ _ c.in_ok-write_symbol.ensures c.in_ok-write_position_if.ensures))
    (last_write _ _ _ _ c.end_object.ensures))

use Rattle.kmin_explain_records.proofs.Common.{ℕ, List, [], ◌∷◌, ◌++◌, ap, codes, json_tokens, tree_in, asked_value, wrote, and_then, and_last, config_of, text_json, object_of, place_members, last_write, as_last}
use Rattle.kmin_explain_records.proofs.asked_members.write_asked.Goals as goal

pub returns : goal.returns
returns c = λ read meanings.
    let by = c.args.by.now in
    let k = c.args.symbol.now in
    let line = c.args.place.line.now in
    as_last c.end_object.result _ _ _ _
    (ap (λ (path : List ℕ). json_tokens (object_of (place_members path line.number
    ++ (codes "value", text_json (asked_value by.strings (tree_in (config_of by)) k.s k.kind line.user)) ∷ (codes "outcome", text_json c.args.outcome.now) ∷ [])))
    c.path_at.ensures)
    (and_last _ _ _ _ _ _
    (and_then _ _ _ _ _ (wrote _ _ _ _ c.in_ok-begin_object.ensures)
    (and_then _ _ _ _ _ c.in_ok-write_place.ensures (and_then _ _ _ _ _ c.in_ok-write_asked_value.ensures c.in_ok-write_bytes.ensures)))
    (last_write _ _ _ _ c.end_object.ensures))

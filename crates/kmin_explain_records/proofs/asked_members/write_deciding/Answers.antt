use Rattle.kmin_explain_records.proofs.Common.{[], sym, ap, flat_map, option_map, json_tokens, sources_model, as_tokens, as_last, nothing_more, deciding_json, place_view}
use Rattle.kmin_explain_records.proofs.asked_members.write_deciding.Goals as goal

pub returns-in-None : goal.returns-in-None
returns-in-None c = λ read meanings.
    let g = sources_model c.args.by.now read meanings in
    let k = c.args.found.now in
    as_tokens _ _ [] _
    (ap (λ p. flat_map json_tokens (deciding_json g k.symbol.s k.symbol.kind k.reasons.case k.reasons.hindrance (option_map place_view p))) (sym c.in-None.is)) (nothing_more _)

pub returns-in-Some : goal.returns-in-Some
returns-in-Some c = λ read meanings.
    let g = sources_model c.args.by.now read meanings in
    let k = c.args.found.now in
    as_last c.write_counting.result _ _ _ _
    (ap (λ p. flat_map json_tokens (deciding_json g k.symbol.s k.symbol.kind k.reasons.case k.reasons.hindrance (option_map place_view p))) (sym c.in-Some.is))
    (c.write_counting.ensures read meanings)

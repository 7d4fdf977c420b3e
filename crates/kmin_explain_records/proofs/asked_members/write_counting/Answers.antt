use Rattle.kmin_explain_records.proofs.Common.{ℕ, List, ◌++◌, ap, ◌∙◌, json_tokens, place_view, sources_model, as_last, asked_json}
use Rattle.kc_explanation.specs.Asked.{outcome_text}
use Rattle.kmin_explain_records.proofs.asked_members.write_counting.Goals as goal

pub returns : goal.returns
returns c = λ read meanings.
    let g = sources_model c.args.by.now read meanings in
    let k = c.args.found.now in
    as_last c.write_asked.result _ _ _ _
    (ap (λ (outcome : List ℕ). json_tokens (asked_json g k.symbol.s k.symbol.kind (place_view c.args.place) outcome))
    (c.deref.ensures.value ∙ c.in_ok-push_outcome.ensures
    ∙ ap (λ (before : List ℕ). before ++ outcome_text k.reasons.case k.reasons.hindrance) c.new-outcome.ensures.items))
    (c.write_asked.ensures read meanings)

use Rattle.kmin_explain_records.proofs.Common.{ℕ, List, ◌++◌, ap, ◌∙◌, codes, json_tokens, place_view, sources_model, as_last, asked_json}
use Rattle.kc_explanation.specs.Asked.{line_place}
use Rattle.kmin_explain.specs.Explanations.{path_of_file}
use Rattle.kmin_explain_records.proofs.asked_members.write_overridden.Goals as goal

pub returns : goal.returns
returns c = λ read meanings.
    let g = sources_model c.args.by.now read meanings in
    let k = c.args.symbol.now in
    let other = place_view c.args.found.now.by in
    as_last c.write_asked.result _ _ _ _
    (ap (λ (outcome : List ℕ). json_tokens (asked_json g k.s k.kind (place_view c.args.found.now.place) outcome))
    (c.deref.ensures.value ∙ c.in_ok-push_overridden_by.ensures read meanings
    ∙ ap (λ (before : List ℕ). before ++ (codes "overridden by " ++ line_place (path_of_file g other.file) other.line.number)) c.new-outcome.ensures.items))
    (c.write_asked.ensures read meanings)

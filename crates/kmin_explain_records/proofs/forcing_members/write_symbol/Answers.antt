use Rattle.kmin_explain_records.proofs.Common.{ℕ, List, [], ◌∷◌, ◌++◌, ap, ◌∙◌, codes, string, valuation_tree, valuation_values, value_of_symbol, name_of_symbol, value_text, and_last, text_json, list_tokens, as_last}
use Rattle.kmin_explain_records.proofs.forcing_members.write_symbol.Goals as goal

pub returns : goal.returns
returns c =
    let tree = valuation_tree c.args.by.now.under.now in
    let value = value_text c.args.by.now.strings (value_of_symbol tree (valuation_values c.args.by.now.under.now) c.args.s) in
    as_last c.write_bytes.result _ _ _ _
    (ap (λ (name : List ℕ). list_tokens ((codes "name", string name) ∷ (codes "value", text_json c.deref.result.now) ∷ [])) c.name_of.ensures
    ∙ ap (λ (text : List ℕ). list_tokens ((codes "name", string (name_of_symbol tree c.args.s)) ∷ (codes "value", text_json text) ∷ []))
    (c.deref.ensures.value ∙ c.in_ok-push_value_of.ensures ∙ ap (λ (before : List ℕ). before ++ value) c.new-text.ensures.items))
    (and_last _ _ _ _ _ _ c.in_ok-write_text.ensures c.write_bytes.ensures)

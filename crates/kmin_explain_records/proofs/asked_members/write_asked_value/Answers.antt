use Rattle.kmin_explain_records.proofs.Common.{ℕ, List, [], ◌∷◌, ◌++◌, ap, ◌∙◌, codes, Tree, valuation_tree, asked_value, text_json, list_tokens, as_last}
use Rattle.kmin_explain_records.proofs.asked_members.write_asked_value.Goals as goal

pub returns : goal.returns
returns c =
    let strings = c.args.by.now.strings in
    let k = c.args.symbol.now in
    let user = c.args.line.now.user in
    as_last c.write_bytes.result _ _ _ _
    (ap (λ (bytes : List ℕ). list_tokens ((codes "value", text_json bytes) ∷ []))
    (c.deref.ensures.value ∙ c.in_ok-push_asked_value.ensures
    ∙ ap (λ (before : List ℕ). before ++ asked_value strings (valuation_tree c.valuation-under.result) k.s k.kind user) c.new-text.ensures.items
    ∙ ap (λ (tree : Tree). asked_value strings tree k.s k.kind user) c.valuation-under.ensures.tree))
    c.write_bytes.ensures

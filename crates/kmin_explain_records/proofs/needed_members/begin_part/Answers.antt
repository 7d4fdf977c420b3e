use Rattle.kmin_explain_records.proofs.Common.{ℕ, List, [], ◌∷◌, ◌++◌, ap, ◌∙◌, codes, node_expr, valuation_tree, valuation_exprs, valuation_values, environment, spelled_with_values, wrote, and_last, text_json, list_tokens, as_last}
use Rattle.json.specs.Token.{begin_object}
use Rattle.kmin_explain_records.proofs.needed_members.begin_part.Goals as goal

pub returns : goal.returns
returns c =
    let under = c.args.by.now.under.now in
    let part = spelled_with_values c.args.by.now.strings (environment (valuation_tree under) (valuation_values under)) (node_expr (valuation_exprs under) c.args.id) in
    as_last c.write_bytes.result _ _ _ _
    (ap (λ (bytes : List ℕ). begin_object ∷ list_tokens ((codes "part", text_json bytes) ∷ []))
    (c.deref.ensures.value ∙ c.in_ok-push_expression.ensures ∙ ap (λ (before : List ℕ). before ++ part) c.new-text.ensures.items))
    (and_last _ _ _ _ _ _ (wrote _ _ _ _ c.in_ok-begin_object.ensures) c.write_bytes.ensures)

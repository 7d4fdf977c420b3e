use Rattle.kmin_explain_records.proofs.Common.{ℕ, List, ◌∷◌, ap, ◌∙◌, codes, string, json_tokens, node_expr, valuation_tree, valuation_exprs, valuation_values, environment, position_view, spelled_with_values, and_then, and_last, text_json, object_of, last_write, as_last, position_members}
use Rattle.kc_value.specs.Tri.{letter}
use Rattle.kc_rules_model.specs.SymbolValues.{condition}
use Rattle.kmin_explain_records.proofs.needed_members.write_part.Goals as goal

pub returns : goal.returns
returns c =
    let under = c.args.by.now.under.now in
    let tree = valuation_tree under in
    let values = valuation_values under in
    let p = c.args.part in
    let e = node_expr (valuation_exprs under) p.part.expr in
    let tokens = λ (value wanted : List ℕ). json_tokens (object_of ((codes "part", text_json (spelled_with_values c.args.by.now.strings (environment tree values) e))
    ∷ (codes "value", string value) ∷ (codes "wanted", string wanted) ∷ position_members c.args.by.now.paths.now (position_view p.at))) in
    as_last c.end_object.result _ _ _ _
    (ap (λ (value : List ℕ). tokens value c.letter-2.result.now) (c.letter.ensures ∙ ap letter c.condition.ensures.value)
    ∙ ap (λ (wanted : List ℕ). tokens (letter (condition tree values e)) wanted) c.letter-2.ensures)
    (and_last _ _ _ _ _ _
    (and_then _ _ _ _ _ c.in_ok-begin_part.ensures
    (and_then _ _ _ _ _ c.in_ok-write_text.ensures (and_then _ _ _ _ _ c.in_ok-write_text-2.ensures c.in_ok-write_position.ensures)))
    (last_write _ _ _ _ c.end_object.ensures))

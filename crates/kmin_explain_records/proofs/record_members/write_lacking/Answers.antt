use Rattle.kmin_explain_records.proofs.Common.{Bool, List, ap, ◌∙◌, Vec, json_tokens, symbol_view, valuation_tree, valuation_exprs, valuation_values, environment, LocatedPart, is_without_prompt, wrote, and_last, as_tokens, as_last, as_end, needs_json, alternatives_json}
use Rattle.kc_located_reasons.specs.between.PartsView.{located_alternatives_view}
use Rattle.kmin_explain_records.proofs.record_members.write_lacking.Goals as goal

pub returns : goal.returns
returns c =
    let exprs = valuation_exprs c.args.by.now.under.now in
    let names = environment (valuation_tree c.args.by.now.under.now) (valuation_values c.args.by.now.under.now) in
    let paths = c.args.by.now.paths.now in
    let without = is_without_prompt c.args.hindrance (symbol_view exprs c.args.symbol.now) in
    and_last _ _ _ _ _ _ (wrote _ _ _ _ c.in_ok-key.ensures)
    (and_last _ _ _ _ _ _
    (as_tokens _ _ _ _
    (ap (λ (b : Bool). json_tokens (needs_json c.args.by.now.strings names paths b (located_alternatives_view exprs c.deref.result.now)))
    (c.is_without_prompt-without_prompt.ensures exprs)
    ∙ ap (λ (vs : List (Vec LocatedPart)). json_tokens (needs_json c.args.by.now.strings names paths without (located_alternatives_view exprs vs))) c.deref.ensures.value)
    c.in_ok-write_needs.ensures)
    (and_last _ _ _ _ _ _ (wrote _ _ _ _ c.in_ok-key-2.ensures)
    (as_end c.write_alternatives.result _ _ _
    (as_last c.write_alternatives.result _ _ _ _
    (ap (λ (vs : List (Vec LocatedPart)). json_tokens (alternatives_json c.args.by.now.strings names paths (located_alternatives_view exprs vs))) c.deref-2.ensures.value)
    c.write_alternatives.ensures))))

use Rattle.kmin_explain_records.proofs.Common.{List, ap, ◌∙◌, Vec, json_tokens, valuation_tree, valuation_exprs, valuation_values, environment, LocatedPart, located_parts_view, parts_json, as_tokens, one_more_written, all_written}
use Rattle.kmin_explain_records.proofs.needed_members.write_each_alternative.Goals as goal

pub loop-list-preserved : goal.loop-list-preserved
loop-list-preserved c =
    let under = c.args.by.now.under.now in
    let parts = λ (ps : List LocatedPart). json_tokens (parts_json c.args.by.now.strings (environment (valuation_tree under) (valuation_values under)) c.args.by.now.paths.now (located_parts_view (valuation_exprs under) ps)) in
    one_more_written (λ (v : Vec LocatedPart). parts v.items) c.args.lists.now c.loop-list.list-index c.list-item.result _ _ _ c.loop-list-test.true c.loop-list.invariant
    (as_tokens _ _ _ _ (ap parts c.deref.ensures.value ∙ ap (λ (v : Vec LocatedPart). parts v.items) c.list-item.is) c.in_ok-write_parts.ensures)

pub returns : goal.returns
returns c =
    let under = c.args.by.now.under.now in
    all_written
    (λ (v : Vec LocatedPart). json_tokens (parts_json c.args.by.now.strings (environment (valuation_tree under) (valuation_values under)) c.args.by.now.paths.now (located_parts_view (valuation_exprs under) v.items)))
    c.args.lists.now c.loop-list.list-index _ _ c.loop-list-test.false c.loop-list.invariant

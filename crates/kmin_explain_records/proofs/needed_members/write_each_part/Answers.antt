use Rattle.kmin_explain_records.proofs.Common.{ap, json_tokens, valuation_tree, valuation_exprs, valuation_values, environment, LocatedPart, located_part_view, part_json, as_tokens, one_more_written, all_written}
use Rattle.kmin_explain_records.proofs.needed_members.write_each_part.Goals as goal

pub loop-part-preserved : goal.loop-part-preserved
loop-part-preserved c =
    let under = c.args.by.now.under.now in
    let f = λ (p : LocatedPart). json_tokens (part_json c.args.by.now.strings (environment (valuation_tree under) (valuation_values under)) c.args.by.now.paths.now (located_part_view (valuation_exprs under) p)) in
    one_more_written f c.args.parts.now c.loop-part.part-index c.part-item.result _ _ _ c.loop-part-test.true c.loop-part.invariant
    (as_tokens _ _ _ _ (ap f c.part-item.is) c.in_ok-write_part.ensures)

pub returns : goal.returns
returns c =
    let under = c.args.by.now.under.now in
    all_written (λ (p : LocatedPart). json_tokens (part_json c.args.by.now.strings (environment (valuation_tree under) (valuation_values under)) c.args.by.now.paths.now (located_part_view (valuation_exprs under) p)))
    c.args.parts.now c.loop-part.part-index _ _ c.loop-part-test.false c.loop-part.invariant

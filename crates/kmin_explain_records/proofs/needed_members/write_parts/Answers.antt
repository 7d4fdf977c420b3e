use Rattle.kmin_explain_records.proofs.Common.{valuation_tree, valuation_exprs, valuation_values, environment, located_part_view, wrote, and_then, and_last, part_json, last_write, as_last, viewed_array}
use Rattle.kmin_explain_records.proofs.needed_members.write_parts.Goals as goal

pub returns : goal.returns
returns c =
    let under = c.args.by.now.under.now in
    as_last c.end_array.result _ _ _ _
    (viewed_array (located_part_view (valuation_exprs under)) (part_json c.args.by.now.strings (environment (valuation_tree under) (valuation_values under)) c.args.by.now.paths.now) c.args.parts.now)
    (and_last _ _ _ _ _ _ (and_then _ _ _ _ _ (wrote _ _ _ _ c.in_ok-begin_array.ensures) c.in_ok-write_each_part.ensures) (last_write _ _ _ _ c.end_array.ensures))

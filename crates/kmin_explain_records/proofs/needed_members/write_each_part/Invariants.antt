use Rattle.kmin_explain_records.proofs.Common.{take, flat_map, json_tokens, valuation_tree, valuation_exprs, valuation_values, environment, LocatedPart, located_part_view, AppendsTokens, part_json}
use Rattle.kmin_explain_records.proofs.needed_members.write_each_part.Given as goal

abbrev pub invariant-loop-part : goal.invariant-loop-part
invariant-loop-part l =
    AppendsTokens l.fn.writer l.writer
    (flat_map (λ (p : LocatedPart). json_tokens (part_json l.by.strings (environment (valuation_tree l.by.under.now) (valuation_values l.by.under.now)) l.by.paths.now (located_part_view (valuation_exprs l.by.under.now) p)))
    (take l.part-index l.parts))

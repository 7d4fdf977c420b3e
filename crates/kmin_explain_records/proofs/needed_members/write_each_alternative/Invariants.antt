use Rattle.kmin_explain_records.proofs.Common.{take, flat_map, Vec, json_tokens, valuation_tree, valuation_exprs, valuation_values, environment, LocatedPart, located_parts_view, AppendsTokens, parts_json}
use Rattle.kmin_explain_records.proofs.needed_members.write_each_alternative.Given as goal

abbrev pub invariant-loop-list : goal.invariant-loop-list
invariant-loop-list l =
    AppendsTokens l.fn.writer l.writer
    (flat_map (λ (v : Vec LocatedPart). json_tokens (parts_json l.by.strings (environment (valuation_tree l.by.under.now) (valuation_values l.by.under.now)) l.by.paths.now (located_parts_view (valuation_exprs l.by.under.now) v.items)))
    (take l.list-index l.lists))

use Rattle.kmin_explain_records.proofs.Common.{List, take, flat_map, json_tokens, Group, LineMeaning, Overridden, overridden_view, overridden_json, AppendsTokens, sources_model}
use Rattle.kmin_explain_records.proofs.asked_members.write_each_overridden.Given as goal

abbrev pub invariant-loop-one : goal.invariant-loop-one
invariant-loop-one l = (read : List Group) (meanings : List (List LineMeaning))
    → AppendsTokens l.fn.writer l.writer
    (flat_map (λ (o : Overridden). json_tokens (overridden_json (sources_model l.by read meanings) l.symbol.s l.symbol.kind (overridden_view o))) (take l.one-index l.found))

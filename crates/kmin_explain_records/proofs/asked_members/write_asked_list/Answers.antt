use Rattle.kmin_explain_records.proofs.Common.{map, ap, ◌∙◌, overridden_view, wrote, and_then, and_last, sources_model, last_write, as_last}
use Rattle.kmin_explain_records.proofs.AskedTokens.{asked_array}
use Rattle.kmin_explain_records.proofs.asked_members.write_asked_list.Goals as goal

pub returns : goal.returns
returns c = λ read meanings are.
    let g = sources_model c.args.by.now read meanings in
    let k = c.args.found.now in
    let own = c.requires.unit in
    as_last c.end_array.result _ _ _ _
    (asked_array g k.symbol.s k.symbol.kind k.symbol.unit k.reasons.case k.reasons.hindrance c.deref.result.now _ own
    (ap (map overridden_view) c.deref.ensures.value ∙ c.in_ok-overridden.ensures g.tree meanings own are.kept) (c.deciding_line-place.ensures g.tree meanings own are.kept))
    (and_last _ _ _ _ _ _
    (and_then _ _ _ _ _ (wrote _ _ _ _ c.in_ok-begin_array.ensures)
    (and_then _ _ _ _ _ (c.in_ok-write_each_overridden.ensures read meanings) (c.in_ok-write_deciding.ensures read meanings)))
    (last_write _ _ _ _ c.end_array.ensures))

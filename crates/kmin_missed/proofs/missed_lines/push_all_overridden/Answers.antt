use Rattle.kmin_missed.proofs.Common.{map, ap, ◌∙◌, on_ok_weaker, overridden_view, sources_model}
use Rattle.kmin_missed.proofs.RowTexts.{all_overridden}
use Rattle.kmin_missed.proofs.missed_lines.push_all_overridden.Goals as goal

pub returns : goal.returns
returns c = λ read meanings are.
    let g = sources_model c.args.by.now read meanings in
    let k = c.args.symbol.now in
    let own = c.requires.unit in
    on_ok_weaker c.push_overridden_rows.result
    (λ w. all_overridden g k.s k.kind k.unit c.deref.result.now c.args.out.now.items _ own
    (ap (map overridden_view) c.deref.ensures.value ∙ c.in_ok-found.ensures g.tree meanings own are.kept) w)
    (c.push_overridden_rows.ensures read meanings)

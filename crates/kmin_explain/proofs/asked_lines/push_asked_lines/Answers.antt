use Rattle.kmin_explain.proofs.Common.{map, ap, ◌∙◌, on_ok_weaker, overridden_view, sources_model}
use Rattle.kmin_explain.proofs.AskedTexts.{all_asked}
use Rattle.kmin_explain.proofs.asked_lines.push_asked_lines.Goals as goal

pub returns : goal.returns
returns c = λ read meanings are.
    let g = sources_model c.args.by.now read meanings in
    let k = c.args.found.now in
    let own = c.requires.unit in
    on_ok_weaker c.push_asked_line.result
    (λ w. all_asked g k.symbol.s k.symbol.kind k.symbol.unit k.reasons.case k.reasons.hindrance c.deref.result.now _ c.args.out.now.items _ _ own
    (ap (map overridden_view) c.deref.ensures.value ∙ c.in_ok-overridden.ensures g.tree meanings own are.kept) (c.deciding_line-place.ensures g.tree meanings own are.kept)
    (c.in_ok-push_overridden_lines.ensures read meanings) w)
    (c.push_asked_line.ensures read meanings)

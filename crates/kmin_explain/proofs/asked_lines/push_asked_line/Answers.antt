use Rattle.kmin_explain.proofs.Common.{◌++◌, sym, ◌∙◌, ap, option_map, on_ok_weaker, place_view, asked_line, sources_model}
use Rattle.kmin_explain.proofs.asked_lines.push_asked_line.Goals as goal

pub returns-in-Some : goal.returns-in-Some
returns-in-Some c = λ read meanings.
    let g = sources_model c.args.by.now read meanings in
    let k = c.args.found.now in
    on_ok_weaker c.push_place.result
    (λ w. w ∙ ap (λ p. c.args.out.now.items ++ asked_line g k.symbol.s k.symbol.kind k.reasons.case k.reasons.hindrance (option_map place_view p)) (sym c.in-Some.is))
    (c.push_place.ensures read meanings)

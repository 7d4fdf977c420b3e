use Rattle.kmin_missed.proofs.Common.{◌++◌, sym, ◌∙◌, ap, option_map, on_ok_weaker, missed_row, sources_model}
use Rattle.kc_config_reasons.specs.between.Places.{place_view}
use Rattle.kmin_missed.proofs.missed_lines.push_missed_row.Goals as goal

pub returns-in-Some : goal.returns-in-Some
returns-in-Some c = λ read meanings are.
    let g = sources_model c.args.by.now read meanings in
    let k = c.args.symbol.now in
    on_ok_weaker c.push_deciding_row.result
    (λ w. w ∙ ap (λ p. c.args.out.now.items ++ missed_row g k.s k.kind (option_map place_view p)) (sym c.in-Some.is))
    (c.push_deciding_row.ensures read meanings are)

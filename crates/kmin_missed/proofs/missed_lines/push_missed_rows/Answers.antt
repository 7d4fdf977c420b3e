use Rattle.kmin_missed.proofs.Common.{◌∙◌, ap, on_ok_weaker, assigning_place, sources_model}
use Rattle.kmin_missed.proofs.RowTexts.{missed_too, not_missed}
use Rattle.kmin_missed.proofs.missed_lines.push_missed_rows.Goals as goal

pub returns-then-not-is_missed : goal.returns-then-not-is_missed
returns-then-not-is_missed c = λ read meanings symbol are at.
    let g = sources_model c.args.by.now read meanings in
    not_missed g c.args.s symbol c.asked_symbol.result.kind (c.asked_symbol.ensures.kind symbol at) c.args.is_missed c.args.out.now.items _
    (rw c.asked_symbol.ensures.number at (c.in_ok-push_all_overridden.ensures read meanings are)) c.if-not-is_missed.true

pub returns : goal.returns
returns c = λ read meanings symbol are at.
    let g = sources_model c.args.by.now read meanings in
    let s = c.args.s in
    let own = c.asked_symbol.ensures.unit in
    on_ok_weaker c.push_missed_row.result
    (λ w. missed_too g s symbol c.asked_symbol.result.kind (c.asked_symbol.ensures.kind symbol at) c.args.is_missed c.args.out.now.items _
    (rw c.asked_symbol.ensures.number at (c.in_ok-push_all_overridden.ensures read meanings are)) _ _ c.if-not-is_missed.false
    (c.deciding_line.ensures g.tree meanings own are.kept ∙ ap (λ u. assigning_place u s 0 meanings) own) (rw c.asked_symbol.ensures.number at w))
    (c.push_missed_row.ensures read meanings are)

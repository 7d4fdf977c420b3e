use Rattle.kmin_explain_records.proofs.Common.{◌||◌, sym, ◌∙◌, ap, IfOk-weaker, sources_model, is_overridden}
use Rattle.kmin_explain_records.proofs.missed_records.is_listed.Goals as goal

pub returns-then-is_missed : goal.returns-then-is_missed
returns-then-is_missed c = λ read meanings are.
    ap (λ b. b || is_overridden (sources_model c.args.by.now read meanings) c.args.s) (sym c.if-is_missed.true)

pub returns : goal.returns
returns c = λ read meanings are.
    let g = sources_model c.args.by.now read meanings in
    IfOk-weaker c.is_overridden.result _ _ (λ found is. is ∙ ap (λ b. b || is_overridden g c.args.s) (sym c.if-is_missed.false)) (c.is_overridden.ensures read meanings are)

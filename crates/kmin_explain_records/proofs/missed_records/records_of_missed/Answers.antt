use Rattle.kmin_explain_records.proofs.Common.{false, ◌∙◌, ap, IfOk-weaker, sources_model, records_in}
use Rattle.kmin_explain_records.proofs.missed_records.records_of_missed.Goals as goal

pub returns : goal.returns
returns c = λ read meanings are.
    let g = sources_model c.args.by.now read meanings in
    IfOk-weaker c.records_of.result _ _ (λ text is. is ∙ ap (records_in g false) (c.deref.ensures.value ∙ c.in_ok-listed.ensures.listed read meanings are))
    (c.records_of.ensures read meanings are)

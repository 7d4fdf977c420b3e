use Rattle.json.specs.Token.{Token}
use Rattle.kmin_explain_records.proofs.Common.{List, ap, as_tokens, json_tokens, Overridden, overridden_view, overridden_json, sources_model, one_more_written, all_written}
use Rattle.kmin_explain_records.proofs.asked_members.write_each_overridden.Goals as goal

pub loop-one-preserved : goal.loop-one-preserved
loop-one-preserved c = λ read meanings.
    let k = c.args.symbol.now in
    let tokens : Overridden → List Token = λ o. json_tokens (overridden_json (sources_model c.args.by.now read meanings) k.s k.kind (overridden_view o)) in
    one_more_written tokens c.args.found.now c.loop-one.one-index c.one-item.result _ _ _ c.loop-one-test.true (c.loop-one.invariant read meanings)
    (as_tokens _ _ (tokens c.one-item.result) _ (ap tokens c.one-item.is) (c.in_ok-write_overridden.ensures read meanings))

pub returns : goal.returns
returns c = λ read meanings.
    let k = c.args.symbol.now in
    all_written (λ (o : Overridden). json_tokens (overridden_json (sources_model c.args.by.now read meanings) k.s k.kind (overridden_view o)))
    c.args.found.now c.loop-one.one-index _ _ c.loop-one-test.false (c.loop-one.invariant read meanings)

use Rattle.kmin_explain_records.proofs.Common.{◌++◌, ◌∙◌, ap, sources_model, explained_as_json_at}
use Rattle.kmin_explain.proofs.SymbolTexts.{one_more_text, no_more_text}
use Rattle.kmin_explain_records.proofs.records.records_of.Goals as goal

pub loop-s-preserved : goal.loop-s-preserved
loop-s-preserved c = λ read meanings are.
    let f = explained_as_json_at (sources_model c.args.by.now read meanings) c.args.all in
    one_more_text f c.args.symbols.now c.loop-s.s-index c.s-item.result c.loop-s.text.items _ _ c.loop-s-test.true
    (c.in_ok-push_explained_record.ensures read meanings are ∙ ap (λ k. c.loop-s.text.items ++ f k) c.s-item.is) (c.loop-s.invariant read meanings are)

pub returns : goal.returns
returns c = λ read meanings are.
    no_more_text (explained_as_json_at (sources_model c.args.by.now read meanings) c.args.all) c.args.symbols.now c.loop-s.s-index c.loop-s.text.items _ c.loop-s-test.false
    (c.loop-s.invariant read meanings are)

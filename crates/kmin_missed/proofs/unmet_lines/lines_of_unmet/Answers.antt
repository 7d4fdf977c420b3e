use Rattle.kmin_missed.proofs.Common.{◌++◌, ◌∙◌, ap, unmet_row_at, sources_model, one_more_text, no_more_text}
use Rattle.kmin_missed.proofs.unmet_lines.lines_of_unmet.Goals as goal

pub loop-s-preserved : goal.loop-s-preserved
loop-s-preserved c = λ read meanings are.
    let f = unmet_row_at (sources_model c.args.by.now read meanings) in
    one_more_text f c.args.symbols.now c.loop-s.s-index c.s-item.result c.loop-s.text.items _ _ c.loop-s-test.true
    (c.in_ok-push_unmet_row.ensures read meanings are ∙ ap (λ k. c.loop-s.text.items ++ f k) c.s-item.is) (c.loop-s.invariant read meanings are)

pub returns : goal.returns
returns c = λ read meanings are.
    no_more_text (unmet_row_at (sources_model c.args.by.now read meanings)) c.args.symbols.now c.loop-s.s-index c.loop-s.text.items _ c.loop-s-test.false
    (c.loop-s.invariant read meanings are)

use Rattle.kmin_explain.proofs.Common.{ℕ, List, ◌++◌, ◌∙◌, ap, Overridden, overridden_view, overridden_line, sources_model}
use Rattle.kmin_explain.proofs.SymbolTexts.{one_more_text, no_more_text}
use Rattle.kmin_explain.proofs.asked_lines.push_overridden_lines.Goals as goal

pub loop-one-preserved : goal.loop-one-preserved
loop-one-preserved c = λ read meanings.
    let k = c.args.symbol.now in
    let text : Overridden → List ℕ = λ o. overridden_line (sources_model c.args.by.now read meanings) k.s k.kind (overridden_view o) in
    one_more_text text c.args.found.now c.loop-one.one-index c.one-item.result c.loop-one.out.items _ _ c.loop-one-test.true
    (c.in_ok-push_overridden_line.ensures read meanings ∙ ap (λ o. c.loop-one.out.items ++ text o) c.one-item.is) (c.loop-one.invariant read meanings)

pub returns : goal.returns
returns c = λ read meanings.
    let k = c.args.symbol.now in
    no_more_text (λ (o : Overridden). overridden_line (sources_model c.args.by.now read meanings) k.s k.kind (overridden_view o))
    c.args.found.now c.loop-one.one-index c.loop-one.out.items _ c.loop-one-test.false (c.loop-one.invariant read meanings)

use Rattle.kmin_explain.proofs.Common.{sym, ◌∙◌, ap, is_hindered_at, sources_model}
use Rattle.kmin_explain.proofs.SymbolTexts.{one_passed, one_found, none_found}
use Rattle.kmin_explain.proofs.explanations.is_one_hindered.Goals as goal

pub loop-s-preserved : goal.loop-s-preserved
loop-s-preserved c = λ read meanings are.
    let f = is_hindered_at (sources_model c.args.by.now read meanings) in
    one_passed f c.args.symbols.now c.loop-s.s-index c.s-item.result _ c.loop-s-test.true
    (ap f (sym c.s-item.is) ∙ sym (c.in_ok-is_hindered.ensures read meanings are) ∙ c.if-branch.false) (c.loop-s.invariant read meanings are)

pub returns-then-branch : goal.returns-then-branch
returns-then-branch c = λ read meanings are.
    let f = is_hindered_at (sources_model c.args.by.now read meanings) in
    one_found f c.args.symbols.now c.loop-s.s-index c.s-item.result _ c.loop-s-test.true
    (ap f (sym c.s-item.is) ∙ sym (c.in_ok-is_hindered.ensures read meanings are) ∙ c.if-branch.true) (c.loop-s.invariant read meanings are)

pub returns : goal.returns
returns c = λ read meanings are.
    none_found (is_hindered_at (sources_model c.args.by.now read meanings)) c.args.symbols.now c.loop-s.s-index _ c.loop-s-test.false (c.loop-s.invariant read meanings are)

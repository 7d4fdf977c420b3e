use Rattle.kc_config.proofs.Common.{◌≡◌, ◌++◌, ◌∷◌, ◌∙◌, ℕ, [], length, take, sym, ap, arith, take-length, map-append, take_more, UserValue, units_of}
use Rattle.kc_config.proofs.changes.units_assigned.Goals as goal

pub loop-unit-preserved : goal.loop-unit-preserved
loop-unit-preserved c =
    let i = c.loop-unit.unit-index in
    let assigns = c.args.assigns.now in
    let a = c.loop-unit-item.result in
    let more = take_more assigns i a c.loop-unit-test.true in
    c.in_ok-push.ensures.items ∙ ap (λ us. us ++ a.0 ∷ []) c.loop-unit.invariant ∙ sym (map-append (λ (b : ℕ × UserValue). b.0) (take i assigns) (a ∷ []))
    ∙ ap (λ x. units_of (take i assigns ++ x ∷ [])) c.loop-unit-item.is ∙ sym (ap units_of more)

pub returns : goal.returns
returns c =
    let assigns = c.args.assigns.now in
    let all : c.loop-unit.unit-index ≡ length assigns = omega (arith, c.loop-unit-test.false, c.loop-unit.auto.unit-index-end) in
    c.loop-unit.invariant ∙ ap (λ n. units_of (take n assigns)) all ∙ ap units_of (take-length assigns)

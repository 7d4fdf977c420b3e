use Rattle.kc_config.proofs.Common.{◌≡◌, ◌++◌, ◌∷◌, ◌∙◌, ℕ, [], Some, length, take, sym, ap, append_assoc, arith, take-length, map-append, take_more, UserValue, changes_of}
use Rattle.kc_config.proofs.changes.push_users.Goals as goal

pub loop-unit-preserved : goal.loop-unit-preserved
loop-unit-preserved c =
    let i = c.loop-unit.unit-index in
    let assigns = c.args.assigns.now in
    let old = c.args.changes.now.items in
    let before = changes_of (take i assigns) in
    let a = c.loop-unit-item.result in
    let more = take_more assigns i a c.loop-unit-test.true in
    c.in_ok-push.ensures.items ∙ ap (λ cs. cs ++ (a.0, Some c.in_ok-copy.copy) ∷ []) c.loop-unit.invariant
    ∙ append_assoc old before ((a.0, Some c.in_ok-copy.copy) ∷ [])
    ∙ ap (λ x. old ++ (before ++ (a.0, Some x) ∷ [])) c.in_ok-copy.ensures
    ∙ ap (λ cs. old ++ cs) (sym (map-append (λ (b : ℕ × UserValue). (b.0, Some b.1)) (take i assigns) (a ∷ []))
    ∙ ap (λ x. changes_of (take i assigns ++ x ∷ [])) c.loop-unit-item.is ∙ sym (ap changes_of more))

pub returns : goal.returns
returns c =
    let assigns = c.args.assigns.now in
    let all : c.loop-unit.unit-index ≡ length assigns = omega (arith, c.loop-unit-test.false, c.loop-unit.auto.unit-index-end) in
    c.loop-unit.invariant ∙ ap (λ n. c.args.changes.now.items ++ changes_of (take n assigns)) all
    ∙ ap (λ es. c.args.changes.now.items ++ changes_of es) (take-length assigns)

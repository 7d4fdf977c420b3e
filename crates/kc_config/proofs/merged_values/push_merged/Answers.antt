use Rattle.kc_config.proofs.Common.{◌≡◌, ◌++◌, ◌∷◌, ◌∙◌, [], Some, length, take, sym, ap, append_assoc, arith, take-length, take_more, user_of, merged_user, changes_of, merged_assigns}
use Rattle.kc_config.proofs.MergedValues.{merged_push}
use Rattle.kc_config.proofs.merged_values.push_merged.Goals as goal

pub loop-unit-preserved : goal.loop-unit-preserved
loop-unit-preserved c =
    let i = c.loop-unit.unit-index in
    let assigns = c.args.assigns.now in
    let users = c.args.users.now in
    let old = c.args.changes.now.items in
    let before = changes_of (merged_assigns users (take i assigns)) in
    let a = c.loop-unit-item.result in
    let more = take_more assigns i a c.loop-unit-test.true in
    let merged : c.in_ok-merged.merged ≡ merged_user a.1 (user_of users a.0) = c.in_ok-merged.ensures ∙ ap (merged_user a.1) c.user_at.ensures in
    c.in_ok-push.ensures.items ∙ ap (λ cs. cs ++ (a.0, Some c.in_ok-merged.merged) ∷ []) c.loop-unit.invariant
    ∙ append_assoc old before ((a.0, Some c.in_ok-merged.merged) ∷ [])
    ∙ ap (λ x. old ++ (before ++ (a.0, Some x) ∷ [])) merged
    ∙ ap (λ cs. old ++ cs) (sym (merged_push users (take i assigns) a)
    ∙ ap (λ x. changes_of (merged_assigns users (take i assigns ++ x ∷ []))) c.loop-unit-item.is ∙ sym (ap (λ l. changes_of (merged_assigns users l)) more))

pub returns : goal.returns
returns c =
    let assigns = c.args.assigns.now in
    let all : c.loop-unit.unit-index ≡ length assigns = omega (arith, c.loop-unit-test.false, c.loop-unit.auto.unit-index-end) in
    c.loop-unit.invariant ∙ ap (λ n. c.args.changes.now.items ++ changes_of (merged_assigns c.args.users.now (take n assigns))) all
    ∙ ap (λ es. c.args.changes.now.items ++ changes_of (merged_assigns c.args.users.now es)) (take-length assigns)

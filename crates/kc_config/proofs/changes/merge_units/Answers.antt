use Rattle.kc_config.proofs.Common.{◌≡◌, ◌++◌, ℕ, List, length, take, ◌∙◌, ap, arith, common_steps, filter, is_none, take-length, user_of, UserValue, units_of}
use Rattle.std.proofs.Math.Seq.{take-append_seam}
use Rattle.kc_config.proofs.changes.merge_units.Goals as goal

pub returns-in_err-push-clause-kept : goal.returns-in_err-push-clause-kept
returns-in_err-push-clause-kept c =
    ap (take (length c.args.valued.now.items)) (c.in_err-push.ensures.items ∙ c.loop-unit.invariant) ∙ take-append_seam c.args.valued.now.items _

pub returns-clause-ok : goal.returns-clause-ok
returns-clause-ok c =
    let assigns = c.args.assigns.now in
    let without = λ (l : List (ℕ × UserValue)). c.args.valued.now.items ++ filter (λ u. is_none (user_of c.args.users.now u)) (units_of l) in
    let all : c.loop-unit.unit-index ≡ length assigns = omega (arith, c.loop-unit-test.false, c.loop-unit.auto.unit-index-end) in
    c.loop-unit.invariant ∙ ap (λ n. without (take n assigns)) all ∙ ap without (take-length assigns)

pub returns-clause-kept : goal.returns-clause-kept
returns-clause-kept c = ap (take (length c.args.valued.now.items)) c.loop-unit.invariant ∙ take-append_seam c.args.valued.now.items _

pub loop-unit-preserved : goal.loop-unit-preserved
loop-unit-preserved c = grind (arith, common_steps)

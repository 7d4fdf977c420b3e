use Rattle.kc_config.proofs.Common.{◌≡◌, ◌++◌, ℕ, List, length, take, ◌∙◌, ap, arith, common_steps, take-length, clears_of}
use Rattle.kc_config.proofs.changes.push_cleared.Goals as goal

pub returns : goal.returns
returns c =
    let units = c.args.units.now in
    let behind = λ (l : List ℕ). c.args.changes.now.items ++ clears_of l in
    let all : c.loop-unit.unit-index ≡ length units = omega (arith, c.loop-unit-test.false, c.loop-unit.auto.unit-index-end) in
    c.loop-unit.invariant ∙ ap (λ n. behind (take n units)) all ∙ ap behind (take-length units)

pub loop-unit-preserved : goal.loop-unit-preserved
loop-unit-preserved c = grind (arith, common_steps)

use Rattle.kmin_run.proofs.BundleCuts.{found, passed}
use Rattle.kmin_run.proofs.bundle.split_bundle.Goals as goal
use Rattle.kmin_run.proofs.Common.{◌∙◌, sym, arith, common_steps}

pub returns-then-eq : goal.returns-then-eq
returns-then-eq c =
    let i = c.loop-line.invariant in
    found c.args.bundle.now i.0 c.loop-line.rest.now c.in-Some.line.now c.in-Some.after.now _ i.1 i.2 i.3 c.in-Some.ensures.bytes c.in-Some.ensures.shorter
    (sym c.eq.ensures ∙ c.if-eq.true) c.split_at.ensures.front

pub loop-line-preserved : goal.loop-line-preserved
loop-line-preserved c =
    let i = c.loop-line.invariant in
    passed c.args.bundle.now i.0 c.loop-line.rest.now c.in-Some.line.now c.in-Some.after.now i.1 i.2 i.3 c.in-Some.ensures.bytes c.in-Some.ensures.shorter
    c.in-Some.ensures.alone c.in-Some.ensures.piece
    (sym c.eq.ensures ∙ c.if-eq.false)

pub overflow_sub-bundle : goal.overflow_sub-bundle
overflow_sub-bundle c = grind (arith, common_steps)

pub loop-line-smaller : goal.loop-line-smaller
loop-line-smaller c = grind (arith, common_steps)

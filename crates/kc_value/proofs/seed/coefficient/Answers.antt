use Rattle.std.proofs.Common.{◌-◌, refl, arith}
use Rattle.std.proofs.Math.Facts.{Fits-lt-pow}
use Rattle.std.proofs.Math.Seq.{drop-length}
use Rattle.kc_value.specs.NameHash.{coefficient}
use Rattle.kc_value.proofs.NameHashSteps.{rest_below, byte_before}
use Rattle.kc_value.proofs.seed.coefficient.Goals as goal

pub loop-at-init : goal.loop-at-init
unfolding coefficient
loop-at-init c = record { within = omega arith; value = rw (drop-length c.args.bytes.now) refl }

pub loop-at-preserved : goal.loop-at-preserved
loop-at-preserved c = record {
  within = omega (arith, c.loop-at.invariant.within);
  value = rw c.loop-at.invariant.value (byte_before c.args.bytes.now c.loop-at.at c.loop-at-test.true c.loop-at.invariant.within);
}

pub returns-clause-small : goal.returns-clause-small
returns-clause-small c =
    let b = rest_below 7 c.loop-at.at c.args.bytes.now (λ i. Fits-lt-pow (c.type_inv.bytes i)) (omega (arith, c.requires.short)) in
    omega (arith, b, c.loop-at.invariant.value)

pub overflow_mul-number : goal.overflow_mul-number
overflow_mul-number c =
    let b = rest_below 6 c.loop-at.at c.args.bytes.now (λ i. Fits-lt-pow (c.type_inv.bytes i)) (omega (arith, c.requires.short, c.loop-at-test.true)) in
    omega (arith, b, c.loop-at.invariant.value)

pub overflow_add-number : goal.overflow_add-number
overflow_add-number c =
    let b = rest_below 6 c.loop-at.at c.args.bytes.now (λ i. Fits-lt-pow (c.type_inv.bytes i)) (omega (arith, c.requires.short, c.loop-at-test.true)) in
    let s = Fits-lt-pow (c.type_inv.bytes (c.loop-at.at - 1)) in
    omega (arith, b, c.loop-at.invariant.value, s)

use Rattle.kc_macros.proofs.Common.{◌∙◌, sym, arith, is_digit}
use Rattle.kc_macros.proofs.NumberLemmas.{no_next_digit, too_large, next_value, all_more}
use Rattle.kc_macros.proofs.parameter.number_within.Goals as goal

pub returns-in_err-next-clause-none : goal.returns-in_err-next-clause-none
returns-in_err-next-clause-none c =
    rw c.from_residual.ensures (no_next_digit c.args.text.now c.digits.i c.digits.number c.args.limit (omega arith) c.digits.invariant.value
    (omega arith) c.in_err-next.ensures.none)

pub returns-then-next-limit-clause-none : goal.returns-then-next-limit-clause-none
returns-then-next-limit-clause-none c =
    let next = c.in_ok-next.ensures.value in
    too_large c.args.text.now c.digits.i c.digits.number c.args.limit (omega arith) c.digits.invariant.value (omega arith)

pub digits-preserved : goal.digits-preserved
digits-preserved c =
    record {
      digits = all_more (λ d. is_digit d 10) c.args.text.now c.digits.i (omega arith) c.digits.invariant.digits c.in_ok-next.ensures.digit;
      value = next_value c.args.text.now c.digits.i c.digits.number c.args.limit (omega arith) c.digits.invariant.value ∙ sym c.in_ok-next.ensures.value;
      within = c.if-next-limit.false;
    }

use Rattle.kc_value.proofs.Common.{◌≡◌, ◌+◌, ◌^◌, arith, drop, get_or, sym, ◌∙◌, [], drop_more, drop_of_length-le}
use Rattle.kc_value.proofs.Digits.{none_from_digit, goes_on, whole, with_digit_below}
use Rattle.kc_value.proofs.number.digits.Goals as goal

pub returns-in_err-value : goal.returns-in_err-value
returns-in_err-value c = record {
  value = let d = drop_more c.args.text.now c.loop-byte.byte-index 0 c.loop-byte-test.true in
      let i = rw d at c.loop-byte.invariant.rest in
      rw c.from_residual.ensures (sym (none_from_digit c.args.base (2 ^ 64) c.loop-byte.value (get_or c.args.text.now c.loop-byte.byte-index 0)
      (drop (c.loop-byte.byte-index + 1) c.args.text.now) (omega arith) (sym c.in_err-value.ensures.value)) ∙ i);
}

pub returns : goal.returns
returns c = record {
  value = let d : drop c.loop-byte.byte-index c.args.text.now ≡ [] = drop_of_length-le c.args.text.now (omega arith) in
      let i = rw d at c.loop-byte.invariant.rest in
      sym (whole c.args.base (2 ^ 64) c.loop-byte.value (omega arith)) ∙ i;
}

pub loop-byte-preserved : goal.loop-byte-preserved
loop-byte-preserved c =
    let d = drop_more c.args.text.now c.loop-byte.byte-index 0 c.loop-byte-test.true in
    let i = rw d at c.loop-byte.invariant.rest in
    record {
      rest = sym (goes_on c.args.base (2 ^ 64) c.loop-byte.value (get_or c.args.text.now c.loop-byte.byte-index 0) c.in_ok-value.value
          (drop (c.loop-byte.byte-index + 1) c.args.text.now) (sym c.in_ok-value.ensures.value)) ∙ i;
      fits = with_digit_below c.args.base (2 ^ 64) c.loop-byte.value (get_or c.args.text.now c.loop-byte.byte-index 0) c.in_ok-value.value
          (sym c.in_ok-value.ensures.value);
    }

pub push_digit-requires-clause-high : goal.push_digit-requires-clause-high
push_digit-requires-clause-high c = omega arith

pub push_digit-requires-clause-low : goal.push_digit-requires-clause-low
push_digit-requires-clause-low c = omega arith

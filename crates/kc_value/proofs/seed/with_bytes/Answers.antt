use Rattle.kc_value.proofs.Common.{◌-◌, length, drop, ◌∙◌, arith, length-drop, take_all}
use Rattle.kc_value.proofs.NameHashSteps.{piece_first, one_piece}
use Rattle.kc_value.proofs.seed.with_bytes.Goals as goal

pub loop-rest-preserved : goal.loop-rest-preserved
loop-rest-preserved c =
    let l = length-drop 7 c.loop-rest.rest.now in
    record {
      value = rw (take_all (length c.loop-rest.rest.now - 7) (drop 7 c.loop-rest.rest.now) (omega (arith, l)))
          (rw (c.with_coefficient-value.ensures, c.whole_coefficient.ensures.value)
          (piece_first c.args.key c.loop-rest.value c.loop-rest.rest.now c.loop-rest-test.true ∙ c.loop-rest.invariant.value));
    }

pub returns : goal.returns
returns c = rw (c.with_coefficient.ensures, c.coefficient.ensures.value)
    (one_piece c.args.key c.loop-rest.value c.loop-rest.rest.now c.loop-rest-test.false ∙ c.loop-rest.invariant.value)

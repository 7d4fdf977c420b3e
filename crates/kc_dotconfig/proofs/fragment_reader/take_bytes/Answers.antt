use Rattle.kc_dotconfig.proofs.Common.{[], refl, arith, common_steps, elements, err_from_is_err_and, tree_of_settled, file_format}
use Rattle.kc_dotconfig.proofs.ReadingSteps.{nothing_taken, first_newline, no_newline, step_taken, step_refused, last_taken, last_refused}
use Rattle.kc_dotconfig.proofs.fragment_reader.take_bytes.Goals as goal

pub loop-at-init : goal.loop-at-init
loop-at-init c =
    record {
      few = c.requires.few;
      taken = (
        [],
        refl,
        nothing_taken (file_format c.args.format.now) (tree_of_settled c.args.settled.now) c.args.buffer.now
            c.args.accumulator.now,
      );
    }

pub take_ended-requires-clause-one_line : goal.take_ended-requires-clause-one_line
take_ended-requires-clause-one_line c = (first_newline c.loop-at.rest.now c.in-Some.at c.in-Some.ensures).1

pub returns-in_err-take_ended-clause-err : goal.returns-in_err-take_ended-clause-err
returns-in_err-take_ended-clause-err c =
    let p = err_from_is_err_and c.from_residual.result c.from_residual.ensures.1 in
    rw (p.1, p.2) (step_refused (file_format c.args.format.now) (tree_of_settled c.args.settled.now) c.args.buffer.now c.args.accumulator.now c.args.bytes.now
    c.loop-at.rest.now c.in-Some.at c.loop-at.buffer c.loop-at.accumulator c.in_err-take_ended.field-0.0 c.take_ended.new.accumulator.lines
    c.loop-at.invariant.taken c.in-Some.ensures c.in_err-take_ended.ensures.err)

pub loop-at-preserved : goal.loop-at-preserved
loop-at-preserved c = record {
  few = c.in_ok-take_ended.ensures.few;
  taken = step_taken (file_format c.args.format.now) (tree_of_settled c.args.settled.now) c.args.buffer.now c.args.accumulator.now c.args.bytes.now
      c.loop-at.rest.now c.in-Some.at c.loop-at.buffer c.loop-at.accumulator _ _ c.loop-at.invariant.taken c.in-Some.ensures c.in_ok-take_ended.ensures.ok;
}

pub take_piece-requires-clause-one_line : goal.take_piece-requires-clause-one_line
take_piece-requires-clause-one_line c = no_newline c.loop-at.rest.now c.in_default.ensures

pub returns-clause-ok : goal.returns-clause-ok
returns-clause-ok c =
    last_taken c.take_piece.result (file_format c.args.format.now) (tree_of_settled c.args.settled.now) c.args.buffer.now c.args.accumulator.now c.args.bytes.now
    c.loop-at.rest.now c.loop-at.buffer c.loop-at.accumulator _ c.loop-at.invariant.taken c.take_piece.ensures.ok

pub returns-clause-err : goal.returns-clause-err
returns-clause-err c =
    last_refused c.take_piece.result (file_format c.args.format.now) (tree_of_settled c.args.settled.now) c.args.buffer.now c.args.accumulator.now
    c.args.bytes.now c.loop-at.rest.now c.loop-at.buffer c.loop-at.accumulator c.loop-at.invariant.taken c.take_piece.ensures.err

pub slice_bounds-take_ended-end : goal.slice_bounds-take_ended-end
slice_bounds-take_ended-end c = grind (arith, elements)

pub returns-clause-few : goal.returns-clause-few
returns-clause-few c = grind (arith, common_steps)

pub overflow_add-rest : goal.overflow_add-rest
overflow_add-rest c = grind (arith, elements)

use Rattle.kc_dotconfig.proofs.Common.{inr, arith, common_steps, elements, err_from_is_err_and, tree_of_settled, file_format}
use Rattle.kc_dotconfig.proofs.ReadingSteps.{block_faulty, part_refused, part_too_large}
use Rattle.kc_dotconfig.proofs.fragment_reader.take_block.Goals as goal

pub returns-in_err-take_bytes-clause-err : goal.returns-in_err-take_bytes-clause-err
returns-in_err-take_bytes-clause-err c =
    let p = err_from_is_err_and c.from_residual.result c.from_residual.ensures.1 in
    rw (p.1, p.2) (part_refused (file_format c.args.format.now) (tree_of_settled c.args.settled.now) c.args.buffer.now c.args.accumulator.now c.args.block.now
    c.in_err-take_bytes.field-0.0 c.args.size c.take_bytes.new.accumulator.lines c.requires.size c.if-block-room.true c.in_err-take_bytes.ensures.err)

pub returns-then-block-room-clause-err : goal.returns-then-block-room-clause-err
returns-then-block-room-clause-err c =
    inr (part_too_large (file_format c.args.format.now) (tree_of_settled c.args.settled.now) c.args.buffer.now c.args.accumulator.now c.args.block.now _
    c.take_bytes.new.accumulator c.args.size c.requires.size c.if-block-room.true c.in_ok-take_bytes.ensures.ok)

pub returns-clause-err : goal.returns-clause-err
returns-clause-err c =
    block_faulty c.take_bytes-2.result (file_format c.args.format.now) (tree_of_settled c.args.settled.now) c.args.buffer.now c.args.accumulator.now
    c.args.block.now c.args.size c.take_bytes-2.new.accumulator.lines c.requires.size c.if-block-room.false c.take_bytes-2.ensures.err

pub returns-clause-room : goal.returns-clause-room
returns-clause-room c = grind (arith, common_steps)

pub slice_bounds-take_bytes-end : goal.slice_bounds-take_bytes-end
slice_bounds-take_bytes-end c = grind (arith, elements)

pub returns-then-block-room-clause-few : goal.returns-then-block-room-clause-few
returns-then-block-room-clause-few c = grind (arith, common_steps)

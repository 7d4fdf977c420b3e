use Rattle.kc_dotconfig.proofs.Common.{arith, common_steps, tree_of_settled, file_format}
use Rattle.kc_dotconfig.proofs.WholeReads.{fault_of, ends_whole}
use Rattle.kc_dotconfig.proofs.fragment_reader.finish.Goals as goal

pub returns-in-Err-clause-err : goal.returns-in-Err-clause-err
returns-in-Err-clause-err c =
    fault_of (file_format c.args.format.now) (tree_of_settled c.args.settled.now) c.args.buffer.now c.args.accumulator c.in-Err.kind
    c.fault_on_next_line.result.kind c.take_end.new.accumulator.lines c.fault_on_next_line.result.line c.fault_on_next_line.ensures.kind
    c.fault_on_next_line.ensures.line c.in-Err.ensures.err

pub returns-in-Ok-clause-ok : goal.returns-in-Ok-clause-ok
returns-in-Ok-clause-ok c =
    ends_whole (file_format c.args.format.now) (tree_of_settled c.args.settled.now) c.args.buffer.now c.args.accumulator c.take_end.new.accumulator c.in-Ok.fragment
    c.in_default.ensures.ok c.in-Ok.ensures

pub returns-in-Err-fragment_of-clause-err : goal.returns-in-Err-fragment_of-clause-err
returns-in-Err-fragment_of-clause-err c = grind (arith, common_steps)

use Rattle.std.proofs.Common.{sym, append-nil, arith}
use Rattle.std.proofs.lemmas.Grind.{common_steps, elements}
use Rattle.kmin_fakes.proofs.test_streams.BoundedSink.write_some.Goals as goal

pub returns-in-TakesNone-clause-bytes : goal.returns-in-TakesNone-clause-bytes
returns-in-TakesNone-clause-bytes c = sym (append-nil c.args.self.now.bytes.items)

pub invariant_of-self-then-is_err : goal.invariant_of-self-then-is_err
invariant_of-self-then-is_err c = grind (arith, common_steps)

pub invariant_of-self-else-is_err : goal.invariant_of-self-else-is_err
invariant_of-self-else-is_err c = grind (arith, common_steps)

pub returns-clause-bound : goal.returns-clause-bound
returns-clause-bound c = grind (arith, common_steps)

pub slice_bounds-extend_from_slice-end : goal.slice_bounds-extend_from_slice-end
slice_bounds-extend_from_slice-end c = grind (arith, elements)

pub returns-in-TakesNone-clause-failures : goal.returns-in-TakesNone-clause-failures
returns-in-TakesNone-clause-failures c = grind (arith, common_steps)

pub returns-clause-failures : goal.returns-clause-failures
returns-clause-failures c = grind (arith, elements)

pub returns-clause-bytes : goal.returns-clause-bytes
returns-clause-bytes c = grind (arith, common_steps)

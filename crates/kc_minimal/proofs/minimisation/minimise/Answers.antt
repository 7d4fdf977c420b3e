use Rattle.kc_minimal.proofs.Common.{rules, arith, common_steps, tree_of_settled, profile_of, file_format}
use Rattle.kc_minimal.proofs.MinimisedFiles.{minimised, cut_off}
use Rattle.kc_minimal.proofs.minimisation.minimise.Goals as goal

pub returns-in-Ok-write_out-clause-minimised : goal.returns-in-Ok-write_out-clause-minimised
returns-in-Ok-write_out-clause-minimised g c =
    let text = c.in-Ok-minimal_of.text.items in
    let minimal = c.in-Ok-minimal_of.ensures.ok in
    minimised (file_format c.args.format.now) c.args.format.now.prefix.valid (profile_of c.args.settled.now) (tree_of_settled c.args.settled.now)
    (g.R.Source.left c.args.source.now) (g.R.Source.left c.read_config.new.source) c.in-Ok.fragment c.in-Ok.ensures.ok minimal.0 text minimal.1 minimal.2
    (g.W.Sink.taken c.args.sink.now) (g.W.Sink.taken c.write_out.new.sink)
    (rw c.deref.ensures.value at c.in-Ok-write_out.ensures.whole)

pub returns-in-Err-write_out-clause-fault : goal.returns-in-Err-write_out-clause-fault
returns-in-Err-write_out-clause-fault g c =
    let text = c.in-Ok-minimal_of.text.items in
    let minimal = c.in-Ok-minimal_of.ensures.ok in
    let part = rw c.deref.ensures.value at c.in-Err-write_out.ensures.part in
    cut_off (file_format c.args.format.now) c.args.format.now.prefix.valid (profile_of c.args.settled.now) (tree_of_settled c.args.settled.now)
    (g.R.Source.left c.args.source.now) (g.R.Source.left c.read_config.new.source) c.in-Ok.fragment c.in-Ok.ensures.ok minimal.0 text minimal.1 minimal.2
    (g.W.Sink.taken c.args.sink.now) (g.W.Sink.taken c.write_out.new.sink)
    (g.W.Sink.failures c.args.sink.now) (g.W.Sink.failures c.write_out.new.sink) c.in-Err-write_out.fault.written part.0 part.1
    c.in-Err-write_out.ensures.failed

pub returns-in-Err-clause-fault : goal.returns-in-Err-clause-fault
returns-in-Err-clause-fault g c = search rules

pub returns-in-Err-write_out-clause-unfailed : goal.returns-in-Err-write_out-clause-unfailed
returns-in-Err-write_out-clause-unfailed g c = grind (arith, common_steps)

pub returns-in-Err-clause-one_read : goal.returns-in-Err-clause-one_read
returns-in-Err-clause-one_read g c = grind (arith, common_steps)

pub returns-in-Err-write_out-clause-minimised : goal.returns-in-Err-write_out-clause-minimised
returns-in-Err-write_out-clause-minimised g c = grind (arith, common_steps)

pub returns-in-Ok-write_out-clause-unfailed : goal.returns-in-Ok-write_out-clause-unfailed
returns-in-Ok-write_out-clause-unfailed g c = grind (arith, common_steps)

pub returns-in-Err-clause-one_write : goal.returns-in-Err-clause-one_write
returns-in-Err-clause-one_write g c = grind (arith, common_steps)

pub returns-in-Err-write_out-clause-reads_unfailed : goal.returns-in-Err-write_out-clause-reads_unfailed
returns-in-Err-write_out-clause-reads_unfailed g c = grind (arith, common_steps)

pub returns-in-Ok-write_out-clause-one_read : goal.returns-in-Ok-write_out-clause-one_read
returns-in-Ok-write_out-clause-one_read g c = grind (arith, common_steps)

pub returns-in-Ok-write_out-clause-fault : goal.returns-in-Ok-write_out-clause-fault
returns-in-Ok-write_out-clause-fault g c = grind (arith, common_steps)

pub returns-in-Err-write_out-clause-one_write : goal.returns-in-Err-write_out-clause-one_write
returns-in-Err-write_out-clause-one_write g c = grind (arith, common_steps)

pub returns-in-Ok-write_out-clause-one_write : goal.returns-in-Ok-write_out-clause-one_write
returns-in-Ok-write_out-clause-one_write g c = grind (arith, common_steps)

pub returns-in-Err-write_out-clause-one_read : goal.returns-in-Err-write_out-clause-one_read
returns-in-Err-write_out-clause-one_read g c = grind (arith, common_steps)

pub returns-in-Ok-write_out-clause-reads_unfailed : goal.returns-in-Ok-write_out-clause-reads_unfailed
returns-in-Ok-write_out-clause-reads_unfailed g c = grind (arith, common_steps)

pub returns-in-Err-minimal_of-clause-one_read : goal.returns-in-Err-minimal_of-clause-one_read
returns-in-Err-minimal_of-clause-one_read g c = grind (arith, common_steps)

pub returns-in-Err-minimal_of-clause-one_write : goal.returns-in-Err-minimal_of-clause-one_write
returns-in-Err-minimal_of-clause-one_write g c = grind (arith, common_steps)

use Rattle.kmin_tidy.proofs.Common.{tree_of_settled, file_format}
use Rattle.kmin_tidy.proofs.ReadingLemmas.{accepted_as, faulty_as, failed_once}
use Rattle.kmin_tidy.proofs.accepted_file.read_source.Goals as goal

pub returns-in-Ok-read_config-clause-ok : goal.returns-in-Ok-read_config-clause-ok
returns-in-Ok-read_config-clause-ok g c = λ known opens.
    accepted_as (file_format c.args.format.now) (tree_of_settled c.args.settled.now) known (g.S.Source.left c.args.source.now)
    (g.S.Source.left c.read_config.new.source) _ _ c.in-Ok.ensures.items opens c.in-Ok-read_config.ensures.kept c.in-Ok-read_config.ensures.fits

pub returns-in-Err-clause-fault : goal.returns-in-Err-clause-fault
returns-in-Err-clause-fault g c = λ known opens.
    faulty_as (file_format c.args.format.now) (tree_of_settled c.args.settled.now) known (g.S.Source.left c.args.source.now)
    (g.S.Source.left c.read_config.new.source) opens _ _ c.in-Err.fault.kind c.in-Err.fault.line c.in-Err.ensures.fault

pub returns-in-Err-clause-once : goal.returns-in-Err-clause-once
returns-in-Err-clause-once g c = failed_once c.in-Err.ensures.failed c.in-Err.ensures.counted

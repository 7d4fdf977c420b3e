use Rattle.kmin_run.proofs.Common.{ap, option_map, none, if_err_map}
use Rattle.kmin_options.specs.Jobs.{list_view}
use Rattle.kmin_run.specs.TidyRuns.{reading}
use Rattle.kmin_run.proofs.tidy_command.list_bytes.Goals as goal

pub returns-in-Some-clause-stopped : goal.returns-in-Some-clause-stopped
returns-in-Some-clause-stopped g c =
    if_err_map c.read_list.result _ _
    (λ stop stopped. (stopped.0, reading (list_view c.in-Some.list) (ap (option_map list_view) c.in-Some.is) stopped.1, stopped.2))
    c.read_list.ensures.stopped

pub returns-in-None-clause-unreported : goal.returns-in-None-clause-unreported
returns-in-None-clause-unreported g c = none

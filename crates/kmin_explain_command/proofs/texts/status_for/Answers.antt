use Rattle.kmin_explain.specs.between.Sources.{sources_model}
use Rattle.kmin_explain_command.proofs.TextEnds.{status_is, no_status}
use Rattle.kmin_explain_command.proofs.texts.status_for.Goals as goal

pub returns-then-not-flags-clause-status : goal.returns-then-not-flags-clause-status
returns-then-not-flags-clause-status c =
    λ read meanings are. no_status c.args.flags (sources_model c.args.by.now read meanings) c.args.symbols.now c.if-not-flags.true

pub returns-then-is_hindered-clause-status : goal.returns-then-is_hindered-clause-status
returns-then-is_hindered-clause-status c =
    λ read meanings are.
    rw c.if-is_hindered.true at (status_is c.args.flags (sources_model c.args.by.now read meanings) c.args.symbols.now c.in_ok-is_hindered.is_hindered c.if-not-flags.false
    (c.in_ok-is_hindered.ensures read meanings are))

pub returns-else-is_hindered-clause-status : goal.returns-else-is_hindered-clause-status
returns-else-is_hindered-clause-status c =
    λ read meanings are.
    rw c.if-is_hindered.false at (status_is c.args.flags (sources_model c.args.by.now read meanings) c.args.symbols.now c.in_ok-is_hindered.is_hindered c.if-not-flags.false
    (c.in_ok-is_hindered.ensures read meanings are))

use Rattle.std.proofs.lemmas.Result.{IfOk-weaker}
use Rattle.kmin_commands.proofs.CommandParts.{with_command}
use Rattle.kmin_commands.proofs.commands.with_listing.Goals as goal

pub returns : goal.returns
returns c =
    IfOk-weaker c.subcommand-2.result _ _ (λ made adds app has.
    with_command _ made _ _ _ adds c.in_ok-listing.ensures (with_command _ _ _ app _ c.in_ok-program.ensures c.in_ok-missed.ensures has))
    c.subcommand-2.ensures

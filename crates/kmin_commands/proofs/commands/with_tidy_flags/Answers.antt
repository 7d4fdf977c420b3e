use Rattle.std.proofs.lemmas.Result.{IfOk-weaker}
use Rattle.kmin_commands.proofs.CommandParts.{with_argument}
use Rattle.kmin_commands.proofs.commands.with_tidy_flags.Goals as goal

pub returns : goal.returns
returns c =
    IfOk-weaker c.arg-2.result _ _ (λ made adds. λ shape has.
    let write = with_argument _ _ _ _ _ c.in_ok-command.ensures c.flag.ensures has in with_argument _ made _ _ _ adds c.in_ok-dropping.ensures write)
    c.arg-2.ensures

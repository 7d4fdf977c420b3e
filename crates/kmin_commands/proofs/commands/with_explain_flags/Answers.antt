use Rattle.std.proofs.lemmas.Result.{IfOk-weaker}
use Rattle.kmin_commands.proofs.CommandParts.{with_argument}
use Rattle.kmin_commands.proofs.commands.with_explain_flags.Goals as goal

pub returns : goal.returns
returns c =
    IfOk-weaker c.arg-4.result _ _ (λ made adds. λ shape has.
    let every = with_argument _ _ _ _ _ c.in_ok-command.ensures c.flag.ensures has in
    let deep = with_argument _ _ _ _ _ c.in_ok-command-2.ensures c.flag-2.ensures every in
    let all = with_argument _ _ _ _ _ c.in_ok-command-3.ensures c.flag-3.ensures deep in
    with_argument _ made _ _ _ adds c.flag-4.ensures all) c.arg-4.ensures

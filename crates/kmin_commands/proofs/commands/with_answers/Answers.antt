use Rattle.std.proofs.lemmas.Result.{IfOk-weaker}
use Rattle.kmin_commands.proofs.CommandParts.{with_argument}
use Rattle.kmin_commands.proofs.commands.with_answers.Goals as goal

pub returns : goal.returns
returns c =
    IfOk-weaker c.arg-4.result _ _ (λ made adds. λ shape has.
    let expand = with_argument _ _ _ _ _ c.in_ok-command.ensures c.flag.ensures has in
    let answers = with_argument _ _ _ _ _ c.in_ok-command-2.ensures c.repeated.ensures expand in
    let define = with_argument _ _ _ _ _ c.in_ok-command-3.ensures c.repeated-2.ensures answers in
    with_argument _ made _ _ _ adds c.repeated-3.ensures define) c.arg-4.ensures

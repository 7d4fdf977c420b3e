use Rattle.std.proofs.lemmas.Result.{IfOk-weaker}
use Rattle.kmin_commands.proofs.CommandParts.{with_argument}
use Rattle.kmin_commands.proofs.commands.wants.Goals as goal

pub returns : goal.returns
returns c =
    let place = c.in_ok-command.ensures _ c.described.ensures in
    let answers = c.in_ok-command-2.ensures _ place in
    let form = with_argument _ _ _ _ _ c.in_ok-command-3.ensures c.message_form.ensures answers in
    IfOk-weaker c.arg-2.result _ _ (λ made adds. with_argument _ made _ _ _ adds c.flag.ensures form) c.arg-2.ensures

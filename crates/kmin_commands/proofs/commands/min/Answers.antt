use Rattle.std.proofs.lemmas.Result.{IfOk-weaker}
use Rattle.kmin_commands.proofs.CommandParts.{with_argument}
use Rattle.kmin_commands.proofs.commands.min.Goals as goal

pub returns : goal.returns
returns c =
    let output = with_argument _ _ _ _ _ c.in_ok-command-2.ensures c.output.ensures c.in_ok-command.ensures in
    let drop = with_argument _ _ _ _ _ c.in_ok-command-3.ensures c.in_ok-dropping.ensures output in
    IfOk-weaker c.arg-3.result _ _ (λ made adds. with_argument _ made _ _ _ adds c.any_number.ensures drop) c.arg-3.ensures

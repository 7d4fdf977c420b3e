use Rattle.std.proofs.lemmas.Result.{IfOk-weaker}
use Rattle.kmin_commands.proofs.CommandParts.{with_argument}
use Rattle.kmin_commands.proofs.commands.compare.Goals as goal

pub returns : goal.returns
returns c =
    let form = with_argument _ _ _ _ _ c.in_ok-command-2.ensures c.output_form.ensures c.in_ok-command.ensures in
    let left = with_argument _ _ _ _ _ c.in_ok-command-3.ensures c.required.ensures form in
    IfOk-weaker c.arg-3.result _ _ (λ made adds. with_argument _ made _ _ _ adds c.required-2.ensures left) c.arg-3.ensures

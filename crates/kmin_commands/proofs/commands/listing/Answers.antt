use Rattle.std.proofs.lemmas.Result.{IfOk-weaker}
use Rattle.kmin_commands.proofs.CommandParts.{with_argument}
use Rattle.kmin_commands.proofs.commands.listing.Goals as goal

pub returns : goal.returns
returns c =
    let files = with_argument _ _ _ _ _ c.in_ok-command-2.ensures c.any_number.ensures c.in_ok-command.ensures in
    let status = with_argument _ _ _ _ _ c.in_ok-command-3.ensures c.flag.ensures files in
    let long = with_argument _ _ _ _ _ c.in_ok-command-4.ensures c.flag-2.ensures status in
    IfOk-weaker c.arg-4.result _ _ (λ made adds. with_argument _ made _ _ _ adds c.output_form.ensures long) c.arg-4.ensures

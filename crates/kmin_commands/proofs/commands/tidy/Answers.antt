use Rattle.std.proofs.lemmas.Result.{IfOk-weaker}
use Rattle.kmin_commands.proofs.CommandParts.{with_argument}
use Rattle.kmin_commands.proofs.commands.tidy.Goals as goal

pub returns : goal.returns
returns c =
    let flags = c.in_ok-command.ensures _ c.in_ok-with_options.ensures in
    let form = with_argument _ _ _ _ _ c.in_ok-command-2.ensures c.output_form.ensures flags in
    let from = with_argument _ _ _ _ _ c.in_ok-command-3.ensures c.valued-from.ensures form in
    let nul = with_argument _ _ _ _ _ c.in_ok-command-4.ensures c.in_ok-nul.ensures from in
    IfOk-weaker c.arg-4.result _ _ (λ made adds. with_argument _ made _ _ _ adds c.in_ok-each_file.ensures nul) c.arg-4.ensures

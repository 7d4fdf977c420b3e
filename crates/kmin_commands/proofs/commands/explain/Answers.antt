use Rattle.std.proofs.lemmas.Result.{IfOk-weaker}
use Rattle.kmin_commands.proofs.CommandParts.{with_argument}
use Rattle.kmin_commands.proofs.commands.explain.Goals as goal

pub returns : goal.returns
returns c =
    let flags = c.in_ok-command.ensures _ c.in_ok-with_options.ensures in
    let form = with_argument _ _ _ _ _ c.in_ok-command-2.ensures c.output_form.ensures flags in
    let names = with_argument _ _ _ _ _ c.in_ok-command-3.ensures c.in_ok-named_symbols.ensures form in
    IfOk-weaker c.arg-3.result _ _ (λ made adds. with_argument _ made _ _ _ adds c.any_number.ensures names) c.arg-3.ensures

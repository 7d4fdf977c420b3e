use Rattle.std.proofs.lemmas.Result.{IfOk-weaker}
use Rattle.kmin_commands.proofs.CommandParts.{with_argument}
use Rattle.kmin_commands.proofs.commands.with_options.Goals as goal

pub returns : goal.returns
returns c =
    let place = c.in_ok-command.ensures _ c.described.ensures in
    let language = with_argument _ _ _ _ _ c.in_ok-command-2.ensures c.language.ensures place in
    let prefix = with_argument _ _ _ _ _ c.in_ok-command-3.ensures c.option.ensures language in
    let none = with_argument _ _ _ _ _ c.in_ok-command-4.ensures c.flag.ensures prefix in
    let strings = with_argument _ _ _ _ _ c.in_ok-command-5.ensures c.strings.ensures none in
    let imply = with_argument _ _ _ _ _ c.in_ok-command-6.ensures c.imply.ensures strings in
    let strict = with_argument _ _ _ _ _ c.in_ok-command-7.ensures c.flag-2.ensures imply in
    let answers = c.in_ok-command-8.ensures _ strict in
    IfOk-weaker c.arg-7.result _ _ (λ made adds. with_argument _ made _ _ _ adds c.message_form.ensures answers) c.arg-7.ensures

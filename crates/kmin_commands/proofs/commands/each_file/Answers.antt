use Rattle.std.proofs.lemmas.Result.{IfOk-weaker}
use Rattle.kmin_commands.proofs.CommandParts.{required_without}
use Rattle.kmin_commands.proofs.commands.each_file.Goals as goal

pub returns : goal.returns
returns c =
    IfOk-weaker c.required_unless_present.result _ _ (λ made adds. required_without c.any_number-files.result made _ _ c.any_number-files.ensures adds)
    c.required_unless_present.ensures

use Rattle.std.proofs.Common.{ap, true, codes}
use Rattle.std.proofs.lemmas.Result.{IfOk-weaker}
use Rattle.clap.specs.Words.{App, Shape, new_app}
use Rattle.clap.specs.Simple.{on_top}
use Rattle.kmin_commands.specs.Declarations as declared
use Rattle.kmin_commands.proofs.CommandParts.{with_fields}
use Rattle.kmin_commands.proofs.commands.named.Goals as goal

abbrev bare : App
bare = on_top (λ (shape : Shape). record shape { no_binary_name = true }) (new_app (codes "kmin"))

abbrev demanding : App
demanding = on_top (λ (shape : Shape). record shape { no_binary_name = true; subcommand_required = true }) (new_app (codes "kmin"))

pub returns : goal.returns
returns c =
    let first = with_fields _ c.no_binary_name.result bare c.no_binary_name.ensures c.new.ensures.local
    (ap (on_top (λ (shape : Shape). record shape { no_binary_name = true })) c.new.ensures.app) in
    let second = with_fields _ c.subcommand_required-program.result demanding c.subcommand_required-program.ensures first.0
    (ap (on_top (λ (shape : Shape). record shape { subcommand_required = true })) first.1) in
    let third = c.helped.ensures demanding second in
    IfOk-weaker c.bin_name.result _ _ (λ made named. with_fields _ made declared.named named.0 third.0 third.1) c.bin_name.ensures

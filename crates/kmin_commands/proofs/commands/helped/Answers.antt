use Rattle.std.proofs.Common.{ap}
use Rattle.kmin_commands.specs.Declarations.{with_version}
use Rattle.kmin_commands.proofs.CommandParts.{with_fields}
use Rattle.kmin_commands.proofs.commands.helped.Goals as goal

pub returns : goal.returns
returns c = λ app has.
    let version = with_fields _ c.version.result (with_version app) c.version.ensures has.0 (ap with_version has.1) in
    let about = with_fields _ c.about.result (with_version app) c.about.ensures version.0 version.1 in
    let usage = with_fields _ c.override_usage-program.result (with_version app) c.override_usage-program.ensures about.0 about.1 in
    c.explained.ensures (with_version app) usage

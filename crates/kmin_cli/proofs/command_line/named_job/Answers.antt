use Rattle.std.proofs.Common.{rules}
use Rattle.clap.specs.Words.{found_of}
use Rattle.kmin_cli.specs.between.WordValues.{HasValues}
use Rattle.kmin_cli.proofs.CommandWords.{of_refusal}
use Rattle.kmin_cli.proofs.command_line.named_job.Goals as goal

pub returns-in_ok-from_str-in-Err-Words : goal.returns-in_ok-from_str-in-Err-Words
returns-in_ok-from_str-in-Err-Words c =
    of_refusal (HasValues c.args.name.now (found_of c.args.matches.now)) c.accepted_job.result c.in-Err-Words.line c.in_ok-from_str-in-Err-Words.field-0
    (search rules) (search rules) c.accepted_job.ensures

use Rattle.std.proofs.Common.{rules, sym, ap, ◌∙◌, option_map}
use Rattle.clap.specs.Words.{found_of, rows_of}
use Rattle.kmin_cli.specs.Parses.{kind}
use Rattle.kmin_cli.proofs.CommandWords.{both_parts, of_command, of_text}
use Rattle.kmin_cli.proofs.command_line.read_words.Goals as goal

pub returns-then-not-is_empty : goal.returns-then-not-is_empty
returns-then-not-is_empty c = kind _ (c.in_ok-help.ensures, search rules)

pub returns-in-Ok : goal.returns-in-Ok
returns-in-Ok c =
    let named = sym c.subcommand.ensures.name ∙ ap (option_map (λ p. p.0.now)) c.unwrap.ensures in
    let rows = sym c.subcommand.ensures.rows ∙ ap (option_map (λ p. rows_of (found_of p.1.now))) c.unwrap.ensures in
    of_command _ _ c.in-Ok.matches _ (found_of c.unwrap.result.1.now) c.named_job.result c.in_ok-program.ensures.declared c.in_ok-program.ensures.simple
    c.in-Ok.ensures.matches (both_parts _ _ _ _ named rows) c.named_job.ensures

pub returns : goal.returns
returns c =
    of_text _ _ _ c.clap_message.result c.in_ok-program.ensures.declared c.in-Err.ensures.passes c.clap_message.ensures.text c.clap_message.ensures.memory

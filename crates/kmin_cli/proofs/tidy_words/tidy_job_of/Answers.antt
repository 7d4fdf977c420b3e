use Rattle.std.proofs.Common.{ℕ, List, map, option_map, rules}
use Rattle.std.specs.Borrow.{Bor}
use Rattle.clap.specs.Words.{found_of}
use Rattle.kmin_options.specs.Jobs.{list_view}
use Rattle.kmin_cli.proofs.TidyRefusals.{refused_beside}
use Rattle.kmin_cli.proofs.tidy_words.tidy_job_of.Goals as goal

pub returns-in_err-settings : goal.returns-in_err-settings
returns-in_err-settings c =
    refused_beside (found_of c.args.matches.now) (map (λ (path : Bor (List ℕ)). path.now) c.in_ok-files.files.items)
    (option_map list_view c.list_of-list.result)
    c.settings_beside.result c.in_err-settings.field-0.0 (search rules) (search rules) (search rules) (search rules)
    c.from_residual-in_err-settings.result (search rules)

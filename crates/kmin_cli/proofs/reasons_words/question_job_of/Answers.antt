use Rattle.std.proofs.Common.{ℕ, List, map, rules}
use Rattle.std.specs.Borrow.{Bor}
use Rattle.clap.specs.Words.{found_of}
use Rattle.kmin_cli.proofs.ExplainRefusals.{question_refused}
use Rattle.kmin_cli.proofs.reasons_words.question_job_of.Goals as goal

pub returns-in_err-settings : goal.returns-in_err-settings
returns-in_err-settings c =
    question_refused c.args.name.now (found_of c.args.matches.now) (map (λ (path : Bor (List ℕ)). path.now) c.in_ok-files.files.items) c.settings_of.result
    c.in_err-settings.field-0.0 (search rules) (search rules) (rw c.deref.ensures.value at c.settings_of.ensures) c.from_residual-in_err-settings.result
    (search rules)
